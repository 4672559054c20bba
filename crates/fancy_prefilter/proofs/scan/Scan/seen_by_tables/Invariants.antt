use Rattle.std.proofs.Common.{◌-◌, ◌≤◌}
use Rattle.fancy_prefilter.specs.Seeks.{NoneSeenBefore}
use Rattle.fancy_prefilter.proofs.scan.Scan.seen_by_tables.Given as goal

abbrev pub invariant-loop-place : goal.invariant-loop-place
invariant-loop-place l = record {
  passed : l.from ≤ l.place;
  within : l.place ≤ l.to;
  none : NoneSeenBefore l.self l.haystack l.from l.place;
}

abbrev pub decreases-loop-place : goal.decreases-loop-place
decreases-loop-place l = l.to - l.place
