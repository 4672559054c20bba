use Rattle.std.proofs.Common.{length}
use Rattle.fancy_regex.proofs.SetCandidateLemmas.{none_apart, next_apart, mapped}
use Rattle.fancy_regex.proofs.set.RegexSet.next_starter.Goals as goal

pub returns-then-width-eq1 : goal.returns-then-width-eq1
returns-then-width-eq1 c =
    let members = c.args.self.now.members.items in
    let width = c.args.self.now.candidates.width in
    let apart = c.if-width-eq1.true in
    mapped c.first_from.result _ _ _ _
    (none_apart members c.args.searched.now c.args.position width apart c.args.groups c.requires.all c.args.from (length members))
    (λ k. next_apart members c.args.searched.now c.args.position width apart c.args.groups c.requires.all c.args.from k (c.requires.only apart))
    c.first_from.ensures
