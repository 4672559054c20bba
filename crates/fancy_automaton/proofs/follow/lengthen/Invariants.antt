use Rattle.std.proofs.Common.{◌≡◌, ◌-◌, ◌<◌, ◌≤◌, length, option_map, true, is_some}
use Rattle.fancy_code.specs.Attempt.{context_in}
use Rattle.fancy_alphabet.specs.Classes.{IsStart}
use Rattle.fancy_states.specs.Cells.{ways_at}
use Rattle.fancy_automaton.specs.Decided.{Decided, Goal, IsDecided, IsPlaced, Opens}
use Rattle.fancy_automaton.specs.Sole.{came_to}
use Rattle.fancy_automaton.proofs.follow.lengthen.Given as goal

abbrev pub invariant-places : goal.invariant-places
invariant-places l = record {
  row : (came_to l.fn.from.stand l.place (option_map (λ t. t.now) l.last)).next < length l.cells.rows.lists.items;
  placed : IsPlaced l.attempt l.cells (came_to l.fn.from.stand l.place (option_map (λ t. t.now) l.last));
  starts : IsStart (context_in l.attempt) l.place l.cells.table.classes (came_to l.fn.from.stand l.place (option_map (λ t. t.now) l.last)).next l.row;
  forth : l.fn.from.stand.place ≤ l.place;
  found : is_some l.fn.from.end ≡ true → is_some l.end ≡ true;
  decided : (goal : Goal) → IsDecided l.attempt l.cells goal l.fn.from
      → Decided l.attempt goal l.fn.from.start (ways_at l.cells.rows.lists.items (came_to l.fn.from.stand l.place (option_map (λ t. t.now) l.last)).next) l.end l.place;
  opens : Opens l.attempt l.cells l.fn.from.stand → Opens l.attempt l.cells (came_to l.fn.from.stand l.place (option_map (λ t. t.now) l.last));
}

abbrev pub decreases-places : goal.decreases-places
decreases-places l = l.attempt.last - l.place
