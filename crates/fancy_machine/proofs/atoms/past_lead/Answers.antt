use Rattle.std.proofs.Common.{◌∙◌, sym}
use Rattle.fancy_tree.specs.Sets.{has}
use Rattle.fancy_code.specs.Code.{instrs_of}
use Rattle.fancy_code.specs.Instructions.{edges_in}
use Rattle.fancy_machine.specs.Attempt.{attempt_context}
use Rattle.fancy_machine.proofs.ContinuesLemmas.{item_seen, suppressed_of}
use Rattle.fancy_machine.proofs.ItemsLemmas.{reads_member}
use Rattle.fancy_machine.proofs.atoms.past_lead.Goals as goal

pub returns-then-past-limit : goal.returns-then-past-limit
returns-then-past-limit c =
    let x = attempt_context c.args.attempt.now in
    let edges = edges_in c.in_ok-set.set.now in
    let is = sym (c.past_member.ensures.past (suppressed_of x) 0 ∙ item_seen c.args.attempt.now.haystack.now c.args.attempt.now.code.now.meaning x (suppressed_of x) 0 c.args.place (has edges)) ∙ c.in_ok-past.was in
    (c.if-past-limit.true, reads_member x (instrs_of c.args.attempt.now.code.now) c.args.atom.now.body c.args.atom.now.head edges c.in_ok-set.ensures c.args.place c.in_ok-past.past is)
