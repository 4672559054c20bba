use Rattle.std.proofs.Common.{◌+◌, ◌-◌, ◌≤◌, ◌<◌, ℕ}
use Rattle.fancy_runner.specs.FirstItem.{FindsNone}
use Rattle.fancy_runner.proofs.first_item.pass_followed.Given as goal

abbrev pub invariant-places : goal.invariant-places
invariant-places l = record {
  passed : l.from ≤ l.place;
  within : l.place ≤ l.last + 1;
  none : (k : ℕ) → l.from ≤ k → k < l.place → FindsNone l.attempt l.table k;
}

abbrev pub decreases-places : goal.decreases-places
decreases-places l = l.last + 1 - l.place
