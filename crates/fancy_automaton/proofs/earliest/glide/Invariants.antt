use Rattle.std.proofs.Common.{◌≡◌, ◌-◌, ◌≤◌, option_map}
use Rattle.fancy_automaton.specs.Sole.{IsAmid, came_to}
use Rattle.fancy_automaton.proofs.earliest.glide.Given as goal

abbrev pub invariant-places : goal.invariant-places
invariant-places l = record {
  amid : IsAmid l.attempt l.cells (came_to l.fn.from l.place (option_map (λ t. t.now) l.last));
  row : l.row ≡ (came_to l.fn.from l.place (option_map (λ t. t.now) l.last)).opened;
  forth : l.fn.from.place ≤ l.place;
}

abbrev pub decreases-places : goal.decreases-places
decreases-places l = l.attempt.last - l.place
