use Rattle.std.proofs.Common.{◌≡◌, true, length, ◌-◌, IsTrue}
use Rattle.fancy_input.specs.Places.{is_boundary}
use Rattle.fancy_part_tests.proofs.haystacks.steps.Given as goal

abbrev pub invariant-loop-at : goal.invariant-loop-at
invariant-loop-at g l = g.S.Haystack.text l.haystack ≡ true → IsTrue (is_boundary (g.S.Haystack.bytes l.haystack) l.at)

abbrev pub decreases-loop-at : goal.decreases-loop-at
decreases-loop-at g l = length (g.S.Haystack.bytes l.haystack) - l.at
