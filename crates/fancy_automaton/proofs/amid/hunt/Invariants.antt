use Rattle.std.proofs.Common.{◌-◌, ◌≤◌}
use Rattle.fancy_automaton.specs.Sole.{IsLed}
use Rattle.fancy_automaton.proofs.amid.hunt.Given as goal

abbrev pub invariant-places : goal.invariant-places
invariant-places l = record {
  led : IsLed l.attempt l.cells l.at;
  forth : l.fn.from.stand.place ≤ l.at.stand.place;
}

abbrev pub decreases-places : goal.decreases-places
decreases-places l = l.attempt.last - l.at.stand.place
