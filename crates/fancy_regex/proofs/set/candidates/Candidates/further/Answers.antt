use Rattle.std.proofs.Common.{take}
use Rattle.fancy_regex.proofs.set.candidates.Candidates.further.Goals as goal

pub returns-clause-held : goal.returns-clause-held
returns-clause-held c members all hold =
    let width = c.args.self.now.width in
    let searched = take c.args.range_end c.args.haystack.now in
    c.narrowed-2.ensures.held width members searched c.args.position 5 c.byte_at-2.ensures all.sixth
    (c.narrowed.ensures.held width members searched c.args.position 4 c.byte_at.ensures all.fifth hold)

pub returns-clause-only : goal.returns-clause-only
returns-clause-only c g there = c.narrowed.ensures.only g (c.narrowed-2.ensures.only g there)
