-- The threads that a sweep has before it.
use Rattle.std.specs.Prelude.{◌≡◌, ℕ, ◌+◌, List, [], ◌∷◌, ◌++◌, Option, Some, None}
use Rattle.fancy_code.specs.declared.code.Code.{Code}
use Rattle.fancy_code.specs.declared.slot.Slot.{Slot}
use Rattle.fancy_runner.specs.declared.pair.Pair.{Pair}
use Rattle.fancy_runner.specs.declared.sweep.Sweep.{Sweep}
use Rattle.fancy_runner.specs.Backlog.{threads_in_backlog}
use Rattle.fancy_code.specs.Code.{instrs_of}
use Rattle.fancy_runner.specs.Runner.{burden}
use Rattle.fancy_meaning.specs.Context.{State}
use Rattle.fancy_runner.specs.Runner.{found_state, AllWithin}
use Rattle.fancy_runner.specs.Sweep.{AreRising}
use Rattle.fancy_code.specs.declared.attempt.Attempt.{Attempt}
use Rattle.fancy_code.specs.Thread.{Thread}
use Rattle.fancy_runner.specs.Threads.{thread_of}

-- the thread that was taken out of the backlog, if there is one
abbrev pub taken_out : Option Pair → List Slot → List Thread
taken_out None slots = []
taken_out (Some pair) slots = thread_of pair slots ∷ []

-- those of the backlog, the oldest last
abbrev pub backlog_in : Code → Sweep → List Thread
backlog_in code s = threads_in_backlog (instrs_of code) s.backlog ++ taken_out s.waiting s.backlog.saved.slots.items

-- all that are left, between two places: those of the backlog are preferred
abbrev pub left_in_sweep : Code → Sweep → List Thread
left_in_sweep code s = backlog_in code s ++ s.row

-- the state that was found
abbrev pub found_in : ℕ → Sweep → Option State
found_in kept s = found_state kept s.found s.best.slots

-- where the backlog has no thread taken out, it has none
abbrev pub IsDrained : Code → Sweep → Type 0
IsDrained code s = s.waiting ≡ None → threads_in_backlog (instrs_of code) s.backlog ≡ []

-- All threads that are left stand at the place or past it, those of the backlog in the order of their places, and none was followed
-- up to a later place.
pub record WaitsFrom (a : Attempt) (place : ℕ) (s : Sweep) : Type 0 where
  pub within : AllWithin place a.last (left_in_sweep a.code.now s)
  pub rising : AreRising (backlog_in a.code.now s)
  pub drained : IsDrained a.code.now s
  pub empty : s.later ≡ []

-- what is due for those of the row, and for those that wait for later places
abbrev pub due_in_rows : Code → Sweep → ℕ
due_in_rows code s = burden code s.row + burden code s.later

-- the backlog, what was found and what waits for later places are as before
pub record KeepsBacklog (old new : Sweep) : Type 0 where
  pub backlog : new.backlog ≡ old.backlog
  pub waiting : new.waiting ≡ old.waiting

pub record KeepsFound (old new : Sweep) : Type 0 where
  pub later : new.later ≡ old.later
  pub found : new.found ≡ old.found
  pub best : new.best ≡ old.best
