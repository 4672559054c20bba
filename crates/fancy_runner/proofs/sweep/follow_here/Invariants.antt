use Rattle.std.proofs.Common.{ℕ, ◌≡◌, ◌+◌, ◌-◌, ◌*◌, ◌^◌, ◌<◌, ◌≤◌, ◌∷◌, ◌++◌, List, Option, length}
use Rattle.std.specs.Prelude.{reverse}
use Rattle.fancy_runner.specs.Attempt.{owed_in, ahead_in, saved_in, threads_in}
use Rattle.fancy_code.specs.Code.{due_of}
use Rattle.fancy_runner.specs.Runner.{burden}
use Rattle.fancy_meaning.specs.Context.{State}
use Rattle.fancy_runner.specs.Runner.{AllWithin}
use Rattle.fancy_runner.specs.Sweep.{AllPast, AllAt, SweepingIn}
use Rattle.fancy_code.specs.Thread.{Thread}
use Rattle.fancy_runner.specs.Threads.{thread_of}
use Rattle.fancy_input.specs.Work.{steps_of, returns_of}
use Rattle.fancy_runner.specs.Runs.{Worked}
use Rattle.fancy_runner.proofs.sweep.follow_here.Given as goal

abbrev pub invariant-pairs : goal.invariant-pairs
invariant-pairs l = record {
  swept : (low kept deep : ℕ) (goal found : Option State) (front back : List Thread)
      → l.attempt.base ≤ low → low ≤ l.fn.start.place → AllPast l.fn.start.place front → AllPast l.fn.start.place l.fn.later
      → SweepingIn l.attempt low kept deep goal l.fn.notes.table ((front ++ reverse l.fn.later) ++ thread_of l.fn.start l.fn.threads.slots ∷ back) found
      → SweepingIn l.attempt low kept deep goal l.notes.table ((front ++ reverse l.later) ++ (threads_in l.attempt l.pair l.threads ++ back)) found;
  here : l.pair.place ≡ l.fn.start.place;
  saved : AllAt l.fn.start.place (saved_in l.attempt l.threads);
  past : AllPast l.fn.start.place l.fn.later → AllPast l.fn.start.place l.later;
  later : (low : ℕ) → low ≤ l.fn.start.place → AllWithin low l.attempt.last l.fn.later → AllWithin low l.attempt.last l.later;
  more : burden l.attempt.code.now l.fn.later ≤ burden l.attempt.code.now l.later;
  spent : steps_of l.work + burden l.attempt.code.now l.later + ahead_in l.attempt l.notes.table (threads_in l.attempt l.pair l.threads)
      ≤ steps_of l.fn.work + burden l.attempt.code.now l.fn.later + (due_of l.attempt.code.now l.fn.start.at + owed_in l.attempt l.fn.notes.table);
  bounded : steps_of l.work + ahead_in l.attempt l.notes.table (threads_in l.attempt l.pair l.threads)
      ≤ steps_of l.fn.work + (due_of l.attempt.code.now l.fn.start.at + owed_in l.attempt l.fn.notes.table);
  tally : steps_of l.work < 2 ^ 64 - 1 → returns_of l.work + length (saved_in l.attempt l.threads) + steps_of l.fn.work ≤ returns_of l.fn.work + steps_of l.work;
  worked : Worked l.attempt l.fn.notes l.notes l.fn.work l.work;
}

abbrev pub decreases-pairs : goal.decreases-pairs
decreases-pairs l = 2 * ahead_in l.attempt l.notes.table (threads_in l.attempt l.pair l.threads) + length (saved_in l.attempt l.threads)
