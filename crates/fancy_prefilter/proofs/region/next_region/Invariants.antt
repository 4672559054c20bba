use Rattle.std.proofs.Common.{◌≤◌}
use Rattle.fancy_prefilter.proofs.region.next_region.Given as goal

abbrev pub invariant-loop-start : goal.invariant-loop-start
invariant-loop-start l = record {
  low : l.fn.from ≤ l.start;
  high : l.start ≤ l.target;
}

abbrev pub decreases-loop-start : goal.decreases-loop-start
decreases-loop-start l = l.start
