use Rattle.std.proofs.Common.{sym, ◌∙◌}
use Rattle.fancy_tree.specs.Sets.{has}
use Rattle.fancy_code.specs.Instructions.{edges_in}
use Rattle.fancy_meaning.proofs.ReadingLemmas.{no_item, an_item, other_item}
use Rattle.fancy_code.proofs.step.past_member.Goals as goal

pub returns-in_err-reading-clause-past : goal.returns-in_err-reading-clause-past
returns-in_err-reading-clause-past c suppressed from =
    c.from_residual.ensures ∙ no_item c.args.haystack.now c.args.meaning suppressed from (has (edges_in c.args.set.now)) c.args.place c.read_at.result c.read_at.ensures.reading c.in_err-reading.was

pub returns-then-contains-clause-past : goal.returns-then-contains-clause-past
returns-then-contains-clause-past c suppressed from =
    an_item c.args.haystack.now c.args.meaning suppressed from (has (edges_in c.args.set.now)) c.args.place c.read_at.result c.read_at.ensures.reading c.in_ok-reading.reading c.in_ok-reading.was (sym c.if-contains.ensures)

pub returns-else-contains-clause-past : goal.returns-else-contains-clause-past
returns-else-contains-clause-past c suppressed from =
    other_item c.args.haystack.now c.args.meaning suppressed from (has (edges_in c.args.set.now)) c.args.place c.read_at.result c.read_at.ensures.reading c.in_ok-reading.reading c.in_ok-reading.was (sym c.if-contains.ensures)
