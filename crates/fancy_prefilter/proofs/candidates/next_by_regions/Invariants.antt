use Rattle.std.proofs.Common.{◌+◌, ◌-◌, ℕ, ◌<◌, ◌≤◌}
use Rattle.fancy_prefilter.specs.NextOpening.{StartsNot}
use Rattle.fancy_prefilter.proofs.candidates.next_by_regions.Given as goal

abbrev pub invariant-loop-place : goal.invariant-loop-place
invariant-loop-place l = record {
  low : l.fn.from ≤ l.place;
  high : l.place ≤ l.range_end + 1;
  none : (k : ℕ) → l.fn.from ≤ k → k < l.place → StartsNot l.fn.prefilter l.fn.haystack l.fn.range_end k;
}

abbrev pub decreases-loop-place : goal.decreases-loop-place
decreases-loop-place l = l.range_end + 1 - l.place
