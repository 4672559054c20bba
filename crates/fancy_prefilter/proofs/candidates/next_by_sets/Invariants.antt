use Rattle.std.proofs.Common.{◌+◌, ◌-◌}
use Rattle.fancy_prefilter.specs.NextOpening.{IsNextOpening}
use Rattle.fancy_prefilter.proofs.candidates.next_by_sets.Given as goal

abbrev pub invariant-loop-place : goal.invariant-loop-place
invariant-loop-place l = IsNextOpening l.prefilter l.haystack l.range_end l.from l.last l.place

abbrev pub decreases-loop-place : goal.decreases-loop-place
decreases-loop-place l = l.last + 1 - l.place
