use Rattle.std.proofs.Common.{◌-◌, ◌≤◌}
use Rattle.fancy_prices.specs.Entries.{ArePassed}
use Rattle.fancy_prices.proofs.entries.Told.next_far.Given as goal

abbrev pub invariant-loop-place : goal.invariant-loop-place
invariant-loop-place l = record {
  passed : l.from ≤ l.place;
  within : l.place ≤ l.to;
  none : ArePassed l.self l.haystack l.from l.place;
}

abbrev pub decreases-loop-place : goal.decreases-loop-place
decreases-loop-place l = l.to - l.place
