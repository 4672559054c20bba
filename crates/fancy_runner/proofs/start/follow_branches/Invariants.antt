use Rattle.std.proofs.Common.{◌≡◌, ◌+◌, ◌<◌, ◌≤◌, ℕ, None, drop, length}
use Rattle.std.specs.Prelude.{slice_index}
use Rattle.fancy_runner.specs.Attempt.{first_accepted_in, begins_by, begins_with, owed_in, AreBranchesIn, KnownIn, AllFailedIn}
use Rattle.fancy_code.specs.Branches.{dues_in}
use Rattle.fancy_code.specs.Code.{due_of}
use Rattle.fancy_input.specs.Work.{steps_of}
use Rattle.fancy_runner.specs.Runs.{Worked}
use Rattle.fancy_runner.proofs.start.follow_branches.Given as goal

abbrev pub invariant-loop-i : goal.invariant-loop-i
invariant-loop-i l = record {
  gone : ((k : ℕ) → slice_index l.attempt.haystack.now k < 256) → AreBranchesIn l.attempt l.branches
      → (kept deep : ℕ) → KnownIn l.attempt kept deep (begins_by l.attempt l.branches l.place) → AllFailedIn l.attempt l.place deep l.fn.cache.notes.table
      → (j : ℕ) → j < l.passed → j < length l.branches.heads.items
      → first_accepted_in l.attempt kept deep (begins_with l.attempt l.branches.lead.group (slice_index l.branches.heads.items j) l.place) ≡ None;
  failed : AreBranchesIn l.attempt l.branches
      → (kept deep : ℕ) → KnownIn l.attempt kept deep (begins_by l.attempt l.branches l.place) → AllFailedIn l.attempt l.place deep l.fn.cache.notes.table
      → AllFailedIn l.attempt l.place deep l.cache.notes.table;
  seen : (k : ℕ) → l.initial.i ≤ k → k < l.i → slice_index l.branches.table.members.items k < l.passed;
  ahead : (k : ℕ) → l.i ≤ k → k < l.i-end → l.passed ≤ slice_index l.branches.table.members.items k;
  spent : steps_of l.work + (dues_in l.attempt.code.now.marking.numbers.items l.attempt.code.now.marking.weights.items (drop l.passed l.branches.heads.items)
      + owed_in l.attempt l.cache.notes.table) ≤ steps_of l.fn.work + (due_of l.attempt.code.now l.attempt.code.now.start + owed_in l.attempt l.fn.cache.notes.table);
  worked : Worked l.attempt l.fn.cache.notes l.cache.notes l.fn.work l.work;
}
