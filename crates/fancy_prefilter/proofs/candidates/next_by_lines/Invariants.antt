use Rattle.std.proofs.Common.{◌+◌, ◌-◌, ◌<◌, ◌≤◌, ℕ}
use Rattle.fancy_prefilter.specs.NextOpening.{StartsNot}
use Rattle.fancy_prefilter.proofs.candidates.next_by_lines.Given as goal

abbrev pub invariant-loop-place : goal.invariant-loop-place
invariant-loop-place l = record {
  passed : l.from ≤ l.place;
  within : l.place ≤ l.last + 1;
  none : (k : ℕ) → l.from ≤ k → k < l.place → StartsNot l.prefilter l.haystack l.range_end k;
}

abbrev pub decreases-loop-place : goal.decreases-loop-place
decreases-loop-place l = l.last + 1 - l.place
