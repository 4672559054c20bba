use Rattle.std.proofs.Common.{◌≡◌, ◌+◌, Some, slice_get, sym, ◌∙◌, arith}
use Rattle.fancy_regex.proofs.CandidateLemmas.{both_there, left_both, one_place}
use Rattle.fancy_regex.proofs.set.candidates.Groups.narrowed.Goals as goal

pub returns-in-Some-clause-held : goal.returns-in-Some-clause-held
returns-in-Some-clause-held c width members searched p place next table hold =
    let byte = c.in-Some.byte in
    let there : slice_get searched (p + place) ≡ Some byte = sym next ∙ c.in-Some.is in
    one_place width members searched p place byte c.args.self _ _ there (table.each byte _ (omega arith)) (both_there c.args.self.bits _) hold

pub returns-in-Some-clause-only : goal.returns-in-Some-clause-only
returns-in-Some-clause-only c g there = left_both _ _ (sym (both_there c.args.self.bits _ g) ∙ there)
