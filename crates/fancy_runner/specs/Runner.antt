-- What the runner keeps true, which follows each pair of an instruction with a mark and a place at most once.
use Rattle.std.specs.Prelude.{◌≡◌, ◌≢◌, ℕ, ◌+◌, ◌<◌, ◌≤◌, ◌⊎◌, Bool, true, false, List, [], ◌∷◌, ◌++◌, length, map, Option, Some, None, is_some}
use Rattle.fancy_code.specs.Instructions.{Instruction}
use Rattle.fancy_code.specs.declared.step.Next.{Next}
use Rattle.fancy_code.specs.declared.step.Next.TheVariants.{On, Dead, Found}
use Rattle.fancy_meaning.specs.Context.{Context, State}
use Rattle.fancy_meaning.specs.Events.{Event, return, outcome, either}
use Rattle.fancy_code.specs.Marking.{Marks}
use Rattle.fancy_code.specs.Thread.{Thread, state_of, slot_span, Known, ends_well, events_of, first_accepted, pair_run, rank, size_of, thread_run}
use Rattle.fancy_code.specs.declared.slot.Slot.{Slot}
use Rattle.fancy_runner.specs.declared.pair.Pair.{Pair}
use Rattle.fancy_code.specs.declared.code.Code.{Code}
use Rattle.fancy_code.specs.Code.{due_of}

-- at most one more branch is saved, at the place where the thread stood
abbrev pub Grown : ℕ → List Thread → List Thread → Type 0
Grown p ts us = (us ≡ ts) ⊎ ((b : Thread) × (b.place ≡ p) × (us ≡ b ∷ ts))

-- only a step on may save a branch, and saves one at the same place
abbrev pub Stacked : Next → Thread → List Thread → List Thread → Type 0
Stacked On t ts us = Grown t.place ts us
Stacked Dead t ts us = us ≡ ts
Stacked Found t ts us = us ≡ ts

-- what moving on to a place does, if there is one by the limit
abbrev pub Moved : Next → ℕ → Option ℕ → ℕ → Thread → Thread → Type 0
Moved On limit None next t u = ⊥
Moved On limit (Some p) next t u = (p ≤ limit) × (u ≡ record t { at = next; place = p })
Moved Dead limit None next t u = u ≡ t
Moved Dead limit (Some p) next t u = (limit < p) × (u ≡ t)
Moved Found limit o next t u = ⊥

-- what a test of the place does, where it holds and where it does not
abbrev pub Tested : Next → Bool → ℕ → Pair → Pair → Type 0
Tested On true next old new = new ≡ record { at = next; place = old.place }
Tested On false next old new = ⊥
Tested Dead true next old new = ⊥
Tested Dead false next old new = new ≡ old
Tested Found held next old new = ⊥

-- nothing is found, and where the thread goes on it stands at the next instruction
pub record GoesTo (next : Next) (at : ℕ) (new : Pair) : Type 0 where
  pub on : next ≡ On → new.at ≡ at
  pub found : next ≢ Found

-- each thread stands at a place that is searched
abbrev pub AllWithin : ℕ → ℕ → List Thread → Type 0
AllWithin first last [] = Unit {0}
AllWithin first last (t ∷ ts) = (first ≤ t.place) × (t.place ≤ last) × AllWithin first last ts

-- the threads that are still to be followed
abbrev pub threads_after : Next → Thread → List Thread → List Thread
threads_after On t ts = t ∷ ts
threads_after Dead t ts = ts
threads_after Found t ts = ts

-- what a step may leave due, for the branches that are saved and for the thread that goes on
abbrev pub Spends : Next → ℕ → ℕ → ℕ → ℕ → Type 0
Spends On cost before after due = after + due ≤ cost + before
Spends Dead cost before after due = after ≤ before
Spends Found cost before after due = after ≤ before

-- what a visit may leave ahead: one more branch, where that is less than before
abbrev pub Progresses : Next → ℕ → ℕ → ℕ → ℕ → Type 0
Progresses On before after len now = (after < before) × (now ≤ len + 1)
Progresses Dead before after len now = (after ≤ before) × (now ≡ len)
Progresses Found before after len now = after ≤ before

module _ (x : Context) (limit : ℕ) (code : List Instruction) (deep : ℕ) where
  abbrev pub AllKnown : ℕ → List Thread → Type 0
  AllKnown kept [] = Unit {0}
  AllKnown kept (t ∷ ts) = Known x limit code deep kept t × AllKnown kept ts

  -- what the saved branches have before them, the last one first
  abbrev pub pending : ℕ → List Thread → List Event
  pending kept [] = []
  pending kept (t ∷ ts) = return ∷ (events_of (thread_run x limit code deep kept t) ++ pending kept ts)

  -- The thread went on to the next, and did so alone: no outcome is lost by that.
  abbrev pub Went : ℕ → Thread → Thread → Type 0
  Went kept t u = Known x limit code deep kept u
      × ((ok : State → Bool) → first_accepted ok (events_of (thread_run x limit code deep kept t)) ≡ first_accepted ok (events_of (thread_run x limit code deep kept u)))
      × (size_of (thread_run x limit code deep kept u) < size_of (thread_run x limit code deep kept t))

  -- the thread saved a branch
  abbrev pub Parted : ℕ → Thread → Thread → Thread → Type 0
  Parted kept t u b = Known x limit code deep kept u × Known x limit code deep kept b × (events_of (thread_run x limit code deep kept t) ≡ either (events_of (thread_run x limit code deep kept u)) (events_of (thread_run x limit code deep kept b)))
      × (size_of (thread_run x limit code deep kept u) + size_of (thread_run x limit code deep kept b) < size_of (thread_run x limit code deep kept t)) × (b.place ≡ t.place)

  -- what a step did
  abbrev pub Stepped : ℕ → Next → Thread → List Thread → Thread → List Thread → Type 0
  Stepped kept On t ts u us = (Went kept t u × (us ≡ ts)) ⊎ ((b : Thread) × Parted kept t u b × (us ≡ b ∷ ts))
  Stepped kept Dead t ts u us = (events_of (thread_run x limit code deep kept t) ≡ []) × (us ≡ ts)
  Stepped kept Found t ts u us = (events_of (thread_run x limit code deep kept t) ≡ outcome (state_of kept t) ∷ []) × (u ≡ t) × (us ≡ ts)

-- `good` tests the place of an outcome; pairs at places before `low` are left out
module _ (good : ℕ → Bool) (x : Context) (low limit : ℕ) (code : List Instruction) (deep : ℕ) where
  abbrev pub IsPair : ℕ → ℕ → Type 0
  IsPair q i = (q < length code) × (low ≤ i) × (i ≤ limit)

  -- the pair was marked
  abbrev pub WasVisited : Marks → ℕ → ℕ → Type 0
  WasVisited table q i = IsPair q i × (table q i ≡ true)

  -- an accepted outcome comes from the pair, whatever the groups are
  abbrev pub Hits : ℕ → ℕ → Type 0
  Hits q i = is_some (first_accepted (ends_well good) (events_of (pair_run x limit code deep q i))) ≡ true

  -- some thread of these hits, and it and those before it rank below r and stand at i or past it
  abbrev pub HitsBelow : ℕ → ℕ → List Thread → Type 0
  HitsBelow r i [] = ⊥
  HitsBelow r i (t ∷ ts) = (rank x limit code deep t.at t.place < r) × (i ≤ t.place) × (Hits t.at t.place ⊎ HitsBelow r i ts)

  -- a marked pair that hits is answered for by a thread that is still to be followed, at the place of the pair or past it
  abbrev pub Covers : Marks → List Thread → Type 0
  Covers table ts = (q i : ℕ) → WasVisited table q i → Hits q i → HitsBelow (rank x limit code deep q i) i ts

  -- no marked pair hits
  abbrev pub AllFailed : Marks → Type 0
  AllFailed table = (q i : ℕ) → WasVisited table q i → Hits q i → ⊥

  -- no marked pair past the place hits
  abbrev pub FailedPast : ℕ → Marks → Type 0
  FailedPast place table = (q i : ℕ) → WasVisited table q i → place < i → Hits q i → ⊥

  -- what the runner has before it once the saved branches are all that is left
  pub record Resting (kept : ℕ) (goal : Option State) (table : Marks) (ts : List Thread) : Type 0 where
    pub all : AllKnown x limit code deep kept ts
    pub answer : first_accepted (ends_well good) (pending x limit code deep kept ts) ≡ goal
    pub covers : Covers table ts

  -- what the runner still has before it
  pub record Running (kept : ℕ) (goal : Option State) (table : Marks) (t : Thread) (ts : List Thread) : Type 0 where
    pub known : Known x limit code deep kept t
    pub all : AllKnown x limit code deep kept ts
    pub answer : first_accepted (ends_well good) (events_of (thread_run x limit code deep kept t) ++ pending x limit code deep kept ts) ≡ goal
    pub covers : Covers table (t ∷ ts)

  -- the same after a visit; where it found an outcome, what was marked past that has failed
  abbrev pub Visited : ℕ → Next → Option State → Marks → Thread → List Thread → Type 0
  Visited kept On goal table t ts = Running kept goal table t ts
  Visited kept Dead goal table t ts = Resting kept goal table ts
  Visited kept Found goal table t ts = (Some (state_of kept t) ≡ goal) × FailedPast t.place table

-- the state that a search stands at, if it found one
abbrev pub found_state : ℕ → Option ℕ → List Slot → Option State
found_state kept None slots = None
found_state kept (Some place) slots = Some (record { place = place; captures = map slot_span slots; kept = kept })

-- what is due for the threads that are still to be followed
abbrev pub burden : Code → List Thread → ℕ
burden c [] = 0
burden c (t ∷ ts) = due_of c t.at + burden c ts
