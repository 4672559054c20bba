-- Where a thread through the code stands, and what the code gives from there.
use Rattle.std.specs.Prelude.{ℕ, List, Option, None, map, Bool, [], ◌∷◌, length, Some, if◌then◌else◌}
use Rattle.fancy_input.specs.declared.span.Span.{Span}
use Rattle.fancy_meaning.specs.Context.{State, Context}
use Rattle.fancy_code.specs.declared.slot.Slot.{Slot}
use Rattle.fancy_code.specs.Instructions.{Instruction}
use Rattle.fancy_meaning.specs.Events.{Event, mark, return, outcome}
use Rattle.fancy_code.specs.Run.{Raw, run, erase}

-- where a thread through the code stands
pub record Thread : Type 0 where
  pub at : ℕ
  pub place : ℕ
  pub slots : List Slot

abbrev pub empty_slot : Slot
empty_slot = record { from = 0; span = None }

abbrev pub slot_from : Slot → ℕ
slot_from s = s.from

abbrev pub slot_span : Slot → Option Span
slot_span s = s.span

-- the pattern's state, where the match will have begun at `kept`
abbrev pub state_of : ℕ → Thread → State
state_of kept t = record { place = t.place; captures = map slot_span t.slots; kept = kept }

-- where each group began last
abbrev pub starts_of : Thread → List ℕ
starts_of t = map slot_from t.slots

-- the first outcome that the test accepts
abbrev pub first_accepted : (State → Bool) → List Event → Option State
first_accepted ok [] = None
first_accepted ok (mark ∷ es) = first_accepted ok es
first_accepted ok (return ∷ es) = first_accepted ok es
first_accepted ok (outcome s ∷ es) = if ok s then Some s else first_accepted ok es

-- an outcome is accepted by its place alone
abbrev pub ends_well : (ℕ → Bool) → State → Bool
ends_well good s = good s.place

abbrev pub events_of : Option (List Raw) → List Event
events_of None = []
events_of (Some w) = erase w

-- how many events the code gives, with those of the fetches
abbrev pub size_of : Option (List Raw) → ℕ
size_of None = 0
size_of (Some w) = length w

abbrev pub IsKnown : Option (List Raw) → Type 0
IsKnown None = ⊥
IsKnown (Some w) = Unit {0}

module _ (x : Context) (limit : ℕ) (code : List Instruction) (deep : ℕ) where
  -- what a thread has before it, where the match will have begun at `kept`
  abbrev pub thread_run : ℕ → Thread → Option (List Raw)
  thread_run kept t = run x limit code deep t.at (state_of kept t) (starts_of t)

  abbrev pub Known : ℕ → Thread → Type 0
  Known kept t = IsKnown (thread_run kept t)

  -- what the code gives from the pair, where no group is written
  abbrev pub pair_run : ℕ → ℕ → Option (List Raw)
  pair_run q i = run x limit code deep q (record { place = i; captures = []; kept = 0 }) []

  -- how many events the pair gives: fewer for each pair that follows
  abbrev pub rank : ℕ → ℕ → ℕ
  rank q i = size_of (pair_run q i)
