use Rattle.std.proofs.Common.{ℕ, ◌+◌, ◌-◌, ◌*◌, ◌^◌, ◌<◌, ◌≤◌, length}
use Rattle.fancy_runner.specs.Attempt.{KnownIn, AllFailedIn, RunningIn, first_accepted_in, owed_in, ahead_in, saved_in, stack_in, threads_in}
use Rattle.fancy_code.specs.Code.{due_of}
use Rattle.fancy_runner.specs.Threads.{begun_at}
use Rattle.fancy_input.specs.Work.{steps_of, returns_of}
use Rattle.fancy_runner.specs.Runs.{Worked}
use Rattle.fancy_runner.specs.Runner.{AllWithin}
use Rattle.fancy_runner.specs.Sweep.{AreRising}
use Rattle.fancy_runner.proofs.runner.follow.Given as goal

abbrev pub invariant-pairs : goal.invariant-pairs
invariant-pairs l = record {
  running : (kept deep : ℕ) → KnownIn l.attempt kept deep (begun_at l.fn.start l.fn.threads.slots) → AllFailedIn l.attempt l.fn.start.place deep l.fn.notes.table
      → RunningIn l.attempt l.fn.start.place kept deep (first_accepted_in l.attempt kept deep (begun_at l.fn.start l.fn.threads.slots)) l.notes.table (stack_in l.attempt l.pair l.threads);
  within : AllWithin l.fn.start.place l.attempt.last (threads_in l.attempt l.pair l.threads);
  rising : AreRising (threads_in l.attempt l.pair l.threads);
  spent : steps_of l.work + ahead_in l.attempt l.notes.table (threads_in l.attempt l.pair l.threads)
      ≤ steps_of l.fn.work + (due_of l.attempt.code.now l.fn.start.at + owed_in l.attempt l.fn.notes.table);
  tally : steps_of l.work < 2 ^ 64 - 1 → returns_of l.work + length (saved_in l.attempt l.threads) + steps_of l.fn.work ≤ returns_of l.fn.work + steps_of l.work;
  worked : Worked l.attempt l.fn.notes l.notes l.fn.work l.work;
}

abbrev pub decreases-pairs : goal.decreases-pairs
decreases-pairs l = 2 * ahead_in l.attempt l.notes.table (threads_in l.attempt l.pair l.threads) + length (saved_in l.attempt l.threads)
