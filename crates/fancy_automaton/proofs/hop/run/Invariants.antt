use Rattle.std.proofs.Common.{◌-◌, ◌≤◌}
use Rattle.fancy_code.specs.Attempt.{context_in}
use Rattle.fancy_alphabet.specs.Classes.{IsStart}
use Rattle.fancy_states.specs.Cells.{row_if}
use Rattle.fancy_automaton.specs.Sole.{Waits}
use Rattle.fancy_automaton.proofs.hop.run.Given as goal

abbrev pub invariant-places : goal.invariant-places
invariant-places l = record {
  waits : Waits l.attempt l.cells l.at l.starts.waiting.items l.found;
  begins : IsStart (context_in l.attempt) l.at.place l.cells.table.classes (row_if l.found l.at.next l.at.begun) l.row;
  passed : l.fn.from.place ≤ l.at.place;
}

abbrev pub decreases-places : goal.decreases-places
decreases-places l = l.attempt.last - l.at.place
