use Rattle.std.proofs.Common.{ℕ, ◌≡◌, ◌+◌, ◌≤◌, ◌⊎◌, ◌++◌, List, Option, length}
use Rattle.std.specs.Prelude.{Some, reverse}
use Rattle.fancy_runner.specs.Attempt.{owed_in}
use Rattle.fancy_runner.specs.Runner.{burden}
use Rattle.fancy_meaning.specs.Context.{State}
use Rattle.fancy_runner.specs.Runner.{AllWithin}
use Rattle.fancy_runner.specs.Sweep.{AllPast, SweepingIn}
use Rattle.fancy_runner.specs.Sweeps.{found_in, due_in_rows, KeepsBacklog}
use Rattle.fancy_code.specs.Thread.{Thread}
use Rattle.fancy_input.specs.Work.{steps_of}
use Rattle.fancy_runner.specs.Runs.{Worked}
use Rattle.fancy_runner.proofs.sweep.follow_row.Given as goal

abbrev pub invariant-threads : goal.invariant-threads
invariant-threads l = record {
  swept : (low kept deep : ℕ) (goal : Option State) (front : List Thread) → l.attempt.base ≤ low → low ≤ l.place → AllPast l.place front
      → SweepingIn l.attempt low kept deep goal l.fn.notes.table (front ++ l.fn.sweep.row) (found_in kept l.fn.sweep)
      → SweepingIn l.attempt low kept deep goal l.notes.table ((front ++ reverse l.sweep.later) ++ l.sweep.row) (found_in kept l.sweep);
  row : AllWithin l.place l.attempt.last l.sweep.row;
  past : AllPast l.place l.sweep.later;
  later : AllWithin l.place l.attempt.last l.sweep.later;
  found : (l.sweep.found ≡ l.fn.sweep.found) ⊎ (l.sweep.found ≡ Some l.place);
  kept : KeepsBacklog l.fn.sweep l.sweep;
  spent : steps_of l.work + due_in_rows l.attempt.code.now l.sweep + owed_in l.attempt l.notes.table
      ≤ steps_of l.fn.work + (burden l.attempt.code.now l.fn.sweep.row + owed_in l.attempt l.fn.notes.table);
  worked : Worked l.attempt l.fn.notes l.notes l.fn.work l.work;
}

abbrev pub decreases-threads : goal.decreases-threads
decreases-threads l = length l.sweep.row
