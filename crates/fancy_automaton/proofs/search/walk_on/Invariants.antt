use Rattle.std.proofs.Common.{◌+◌, ◌-◌, ◌≤◌}
use Rattle.fancy_automaton.specs.Sole.{Reaches}
use Rattle.fancy_automaton.proofs.search.walk_on.Given as goal

abbrev pub invariant-places : goal.invariant-places
invariant-places l = record {
  reaches : Reaches l.attempt l.cells l.fn.from.stand.place l.at;
  within : l.begun ≤ l.attempt.last;
}

abbrev pub decreases-places : goal.decreases-places
decreases-places l = l.attempt.last + 1 - l.begun
