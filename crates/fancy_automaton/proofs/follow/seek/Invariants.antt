use Rattle.std.proofs.Common.{◌≡◌, ◌-◌, ◌≤◌, None, option_map}
use Rattle.fancy_automaton.specs.Sole.{IsSole, came_to}
use Rattle.fancy_automaton.proofs.follow.seek.Given as goal

abbrev pub invariant-places : goal.invariant-places
invariant-places l = record {
  sole : IsSole l.attempt l.cells (record { stand = came_to l.fn.from.stand l.place (option_map (λ t. t.now) l.last); start = l.start; end = None });
  row : l.row ≡ (came_to l.fn.from.stand l.place (option_map (λ t. t.now) l.last)).opened;
  forth : l.fn.from.stand.place ≤ l.place;
}

abbrev pub decreases-places : goal.decreases-places
decreases-places l = l.attempt.last - l.place
