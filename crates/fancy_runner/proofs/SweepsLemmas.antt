-- The threads that a sweep has before it.
use Rattle.std.proofs.Common.{◌≡◌, ◌≤◌, ◌⊎◌, inl, inr, ℕ, Bool, List, [], ◌++◌, Option, Some, None, sym, ap₂, ◌∙◌, subst}
use Rattle.fancy_code.specs.declared.slot.Slot.{Slot}
use Rattle.std.proofs.lemmas.List.{append-nil}
use Rattle.fancy_code.specs.declared.code.Code.{Code}
use Rattle.fancy_runner.specs.declared.backlog.Backlog.{Backlog}
use Rattle.fancy_runner.specs.declared.pair.Pair.{Pair}
use Rattle.fancy_runner.specs.declared.sweep.Sweep.{Sweep}
use Rattle.fancy_code.specs.declared.attempt.Attempt.{Attempt}
use Rattle.fancy_code.specs.Attempt.{context_in, instrs_in, may_end_in}
use Rattle.fancy_runner.specs.Attempt.{marks_in}
use Rattle.fancy_runner.specs.Runs.{EndsIn, FailedTo}
use Rattle.fancy_runner.specs.Backlog.{threads_in_backlog, TookOldest}
use Rattle.fancy_code.specs.Compile.{AreEasy}
use Rattle.fancy_meaning.specs.Context.{State}
use Rattle.fancy_runner.specs.Sweep.{SweepingIn}
use Rattle.fancy_runner.proofs.SweepLemmas.{sweep_failed, sweep_past}
use Rattle.fancy_code.specs.Code.{instrs_of}
use Rattle.fancy_code.specs.Instructions.{Instruction}
use Rattle.fancy_runner.specs.Runner.{found_state}
use Rattle.fancy_runner.specs.Sweeps.{taken_out, backlog_in, found_in, KeepsBacklog, KeepsFound}
use Rattle.fancy_code.specs.Thread.{Thread}
use Rattle.fancy_runner.specs.Threads.{KeptThreads}

pub backlog_same : (code : Code) (s t : Sweep) → KeepsBacklog s t → backlog_in code t ≡ backlog_in code s
backlog_same code s t k =
    ap₂ (λ (b : Backlog) (w : Option Pair). threads_in_backlog (instrs_of code) b ++ taken_out w b.saved.slots.items) k.backlog k.waiting

pub found_same : (kept : ℕ) (s t : Sweep) → KeepsFound s t → found_in kept t ≡ found_in kept s
found_same kept s t k = ap₂ (λ (f : Option ℕ) (b : KeptThreads). found_state kept f b.slots) k.found k.best

-- the threads of the backlog once the oldest was taken out, with that one
pub took_all : (code : List Instruction) (o : Option Pair) (old new : Backlog) → TookOldest code o old new
    → threads_in_backlog code new ++ taken_out o new.saved.slots.items ≡ threads_in_backlog code old
took_all code None old new took = append-nil (threads_in_backlog code new) ∙ took.1 ∙ sym took.0
took_all code (Some pair) old new took = sym took

-- what is found ends in what is searched, if it was found before or at a place there
pub found_here : (a : Attempt) (low place : ℕ) (old new : Option ℕ) → (new ≡ old) ⊎ (new ≡ Some place) → low ≤ place → place ≤ a.last → EndsIn a low old → EndsIn a low new
found_here a low place old new (inl same) from to ends = rw same ends
found_here a low place old new (inr here) from to ends = rw here (from, to)

-- a sweep that has no thread before it
module _ (a : Attempt) (easy : AreEasy (instrs_in a)) (low kept deep : ℕ) (goal : Option State) (table : List Bool) (left : List Thread) (found : Option State)
    (none : left ≡ []) (s : SweepingIn a low kept deep goal table left found) where
  ended : SweepingIn a low kept deep goal table [] found
  ended = subst (λ (x : List Thread). SweepingIn a low kept deep goal table x found) none s

  pub ended_answer : found ≡ goal
  ended_answer = ended.answer

  pub ended_left : (end : Option ℕ) (slots : List Slot) → found ≡ found_state kept end slots → FailedTo a low deep end table
  ended_left None slots e =
      sweep_failed (may_end_in a) (context_in a) low a.last (instrs_in a) easy deep kept goal (marks_in a table)
      (subst (λ (f : Option State). SweepingIn a low kept deep goal table [] f) e ended)
  ended_left (Some stop) slots e =
      sweep_past (may_end_in a) (context_in a) low a.last (instrs_in a) easy deep kept goal (marks_in a table) _
      (subst (λ (f : Option State). SweepingIn a low kept deep goal table [] f) e ended)
