use Rattle.std.proofs.Common.{ℕ, ◌+◌, ◌≤◌, Option}
use Rattle.fancy_runner.specs.Attempt.{ahead_in, threads_in, stack_in, RunningIn}
use Rattle.fancy_meaning.specs.Context.{State}
use Rattle.fancy_runner.specs.Runner.{AllWithin}
use Rattle.fancy_runner.specs.Sweep.{SweepingIn}
use Rattle.fancy_runner.specs.Sweeps.{left_in_sweep, found_in, WaitsFrom}
use Rattle.fancy_input.specs.Work.{steps_of}
use Rattle.fancy_runner.specs.Runs.{Worked, EndsIn}
use Rattle.fancy_runner.proofs.sweep.follow_by_place.Given as goal

abbrev pub invariant-loop-place : goal.invariant-loop-place
invariant-loop-place l = record {
  swept : (low kept deep : ℕ) (goal : Option State) → l.attempt.base ≤ low → AllWithin low l.attempt.last (threads_in l.attempt l.fn.pair l.fn.threads)
      → RunningIn l.attempt low kept deep goal l.fn.notes.table (stack_in l.attempt l.fn.pair l.fn.threads)
      → SweepingIn l.attempt low kept deep goal l.notes.table (left_in_sweep l.attempt.code.now l.sweep) (found_in kept l.sweep);
  from : (low : ℕ) → AllWithin low l.attempt.last (threads_in l.attempt l.fn.pair l.fn.threads) → low ≤ l.place;
  base : l.attempt.base ≤ l.place;
  waits : WaitsFrom l.attempt l.place l.sweep;
  found : (low : ℕ) → AllWithin low l.attempt.last (threads_in l.attempt l.fn.pair l.fn.threads) → EndsIn l.attempt low l.sweep.found;
  spent : steps_of l.work + ahead_in l.attempt l.notes.table (left_in_sweep l.attempt.code.now l.sweep)
      ≤ steps_of l.fn.work + ahead_in l.attempt l.fn.notes.table (threads_in l.attempt l.fn.pair l.fn.threads);
  worked : Worked l.attempt l.fn.notes l.notes l.fn.work l.work;
}
