-- What the parts of the runner need, what they leave, and what they count.
use Rattle.std.specs.Prelude.{◌≡◌, ℕ, ◌+◌, ◌-◌, ◌^◌, ◌<◌, ◌≤◌, Bool, List, Option, Some, None, Result, Err, IfOk, IfSome, length}
use Rattle.fancy_input.specs.LastLines.{KnowsLastLines}
use Rattle.fancy_code.specs.declared.attempt.Attempt.{Attempt}
use Rattle.fancy_code.specs.declared.slot.Slot.{Slot}
use Rattle.fancy_input.specs.declared.work.Work.{Work}
use Rattle.fancy_code.specs.Attempt.{context_in, instrs_in, may_end_in}
use Rattle.fancy_code.specs.Code.{cost_of, due_of}
use Rattle.fancy_code.specs.Compile.{AreEasy}
use Rattle.fancy_code.specs.Run.{instr_at}
use Rattle.fancy_meaning.specs.Context.{State}
use Rattle.fancy_input.specs.Work.{steps_of, returns_of, RunsWithin, IsSpent}
use Rattle.fancy_runner.specs.declared.notes.Notes.{Notes}
use Rattle.fancy_runner.specs.declared.refusal.RunnerRefusal.{RunnerRefusal}
use Rattle.fancy_runner.specs.declared.refusal.RunnerRefusal.TheVariants.{Steps}
use Rattle.fancy_runner.specs.Attempt.{saved_in, bits_in, marks_in, owed_in, KnownIn, AllFailedIn, FailedPastIn, first_accepted_in}
use Rattle.fancy_runner.specs.declared.pair.Pair.{Pair}
use Rattle.fancy_runner.specs.Runner.{found_state, AllWithin, Grown, Running, Went}
use Rattle.fancy_code.specs.Thread.{Thread, Known}
use Rattle.fancy_runner.specs.Threads.{ThreadStack, KeptThreads, thread_of}

-- the table has the marks of the place
pub record HasRow (a : Attempt) (place : ℕ) (table : List Bool) : Type 0 where
  pub low : a.base ≤ place
  pub high : place ≤ a.last
  pub room : bits_in a ≤ length table
  pub small : length table < 2 ^ 64

-- An attempt is ready: what is searched is in the haystack, by easy code, the table has room for all marks, and what was read of the line
-- ends is true.
pub record IsReady (a : Attempt) (notes : Notes) : Type 0 where
  pub inside : a.last ≤ length a.haystack.now
  pub easy : AreEasy (instrs_in a)
  pub room : bits_in a ≤ length notes.table
  pub small : length notes.table < 2 ^ 64
  pub last_lines : KnowsLastLines a.haystack.now notes.last_lines

-- it is ready, and each of the threads stands at a place that is searched
pub record IsReadyFor (a : Attempt) (threads : List Thread) (notes : Notes) : Type 0 where
  pub ready : IsReady a notes
  pub within : AllWithin a.base a.last threads

-- it is ready, and the place is not before the table
pub record IsReadyFrom (a : Attempt) (place : ℕ) (notes : Notes) : Type 0 where
  pub ready : IsReady a notes
  pub low : a.base ≤ place

-- it is ready, and the place is one that is searched
pub record IsReadyAt (a : Attempt) (place : ℕ) (notes : Notes) : Type 0 where
  pub ready : IsReady a notes
  pub low : a.base ≤ place
  pub high : place ≤ a.last

-- At most one branch was saved, at the place where the thread stood, and no more branches than steps were taken, as far as their number
-- goes.
pub record Saves (a : Attempt) (place : ℕ) (old new : KeptThreads) (before after : Work) : Type 0 where
  pub grown : Grown place (saved_in a old) (saved_in a new)
  pub tally : steps_of after < 2 ^ 64 - 1 → length (saved_in a new) + steps_of before ≤ length (saved_in a old) + steps_of after

-- The table is as long as before, and what was read of the line ends is true. What was done was added to the counts, to the returns no
-- more than to the steps, and the limit of steps was heeded.
pub record Worked (a : Attempt) (old new : Notes) (before after : Work) : Type 0 where
  pub room : length new.table ≡ length old.table
  pub last_lines : KnowsLastLines a.haystack.now new.last_lines
  pub steps : steps_of before ≤ steps_of after
  pub returns : returns_of before ≤ returns_of after
  pub paired : returns_of after - returns_of before ≤ steps_of after - steps_of before
  pub heeds : RunsWithin a.step_limit before after

-- A run that gives a result, or is refused, worked so. At most so many steps were taken as were due, and as the marks are worth that were made. It is
-- refused for its steps only where the limit is spent.
pub record Ran {T : Type 0} (a : Attempt) (due : ℕ) (result : Result T RunnerRefusal) (old new : Notes) (before after : Work) : Type 0 where
  pub worked : Worked a old new before after
  pub paid : steps_of after + owed_in a new.table ≤ steps_of before + (due + owed_in a old.table)
  pub limited : result ≡ Err Steps → IsSpent a.step_limit after

-- From a pair a thread goes on to the next one alone, whatever its groups are, at the same place or the next, which is searched. What is due there
-- is paid.
pub record GoesOn (a : Attempt) (old next : Pair) : Type 0 where
  pub went : (kept deep : ℕ) (slots : List Slot) → Known (context_in a) a.last (instrs_in a) deep kept (thread_of old slots)
      → Went (context_in a) a.last (instrs_in a) deep kept (thread_of old slots) (thread_of next slots)
  pub forth : old.place ≤ next.place
  pub near : next.place ≤ old.place + 1
  pub high : next.place ≤ a.last
  pub paid : due_of a.code.now next.at ≤ cost_of a.code.now (instr_at (instrs_in a) old.at)

-- The thread that is followed went on from one pair to another, and nothing was saved. What is still to be followed has the same answer. At most
-- so many steps were taken as were due, and as the marks are worth that were made, at least one for each byte, and the limit was heeded.
pub record WentOn (a : Attempt) (old new : Pair) (before after : List Bool) (first last : Work) : Type 0 where
  pub running : (low kept deep : ℕ) (goal : Option State) (slots : List Slot) (saved : List Thread) → a.base ≤ low
      → Running (may_end_in a) (context_in a) low a.last (instrs_in a) deep kept goal (marks_in a before) (thread_of old slots) saved
      → Running (may_end_in a) (context_in a) low a.last (instrs_in a) deep kept goal (marks_in a after) (thread_of new slots) saved
  pub forth : old.place ≤ new.place
  pub high : old.place ≤ a.last → new.place ≤ a.last
  pub room : length after ≡ length before
  pub spent : steps_of last + (due_of a.code.now new.at + owed_in a after) ≤ steps_of first + (due_of a.code.now old.at + owed_in a before)
  pub steps : steps_of first ≤ steps_of last
  pub counted : steps_of last < 2 ^ 64 - 1 → steps_of first + (new.place - old.place) ≤ steps_of last
  pub returns : returns_of last ≡ returns_of first
  pub heeds : RunsWithin a.step_limit first last

-- an outcome ends at the place or past it, in what is searched
abbrev pub EndsIn : Attempt → ℕ → Option ℕ → Type 0
EndsIn a place end = IfSome end (λ stop. (place ≤ stop) × (stop ≤ a.last))

-- an attempt at a place ran so, and its outcome ends there or past it, if it has one
pub record Attempted (a : Attempt) (place due : ℕ) (result : Result (Option ℕ) RunnerRefusal) (old new : Notes) (before after : Work) : Type 0 where
  pub ran : Ran a due result old new before after
  pub ends : IfOk result (EndsIn a place)

module _ (a : Attempt) where
  -- the slots are those of the first accepted outcome of the thread, if what was marked before, at its place or past it, gives none
  abbrev pub AnswersIn : ThreadStack → List Bool → Option ℕ → List Slot → Type 0
  AnswersIn ts old end slots = (kept deep : ℕ) → KnownIn a kept deep ts → AllFailedIn a ts.current.place deep old
      → found_state kept end slots ≡ first_accepted_in a kept deep ts

  -- where nothing was found, no marked pair from the place on gives an accepted outcome, and else none past the end
  abbrev pub FailedTo : ℕ → ℕ → Option ℕ → List Bool → Type 0
  FailedTo place deep None table = AllFailedIn a place deep table
  FailedTo place deep (Some stop) table = FailedPastIn a place deep stop table

  -- the same of what is marked after an attempt, if what was marked before gives none
  abbrev pub LeavesIn : ThreadStack → List Bool → Option ℕ → List Bool → Type 0
  LeavesIn ts old end new = (kept deep : ℕ) → KnownIn a kept deep ts → AllFailedIn a ts.current.place deep old → FailedTo ts.current.place deep end new
