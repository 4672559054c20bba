-- What a sweep keeps true, which follows the threads that are left in the order of their places.
use Rattle.std.specs.Prelude.{◌≡◌, ℕ, ◌<◌, ◌≤◌, ◌⊎◌, List, [], ◌∷◌, ◌++◌, Bool, Option, Some, None}
use Rattle.std.specs.Option.{option_or}
use Rattle.fancy_code.specs.Instructions.{Instruction}
use Rattle.fancy_code.specs.declared.step.Next.{Next}
use Rattle.fancy_code.specs.declared.step.Next.TheVariants.{On, Dead, Found}
use Rattle.fancy_code.specs.declared.attempt.Attempt.{Attempt}
use Rattle.fancy_code.specs.declared.slot.Slot.{Slot}
use Rattle.fancy_meaning.specs.Context.{Context, State}
use Rattle.fancy_code.specs.Marking.{Marks}
use Rattle.fancy_code.specs.Thread.{Thread, state_of}
use Rattle.fancy_runner.specs.Threads.{ThreadStack}
use Rattle.fancy_runner.specs.Runner.{AllKnown, pending, Hits, WasVisited, found_state}
use Rattle.fancy_code.specs.Thread.{rank, first_accepted, ends_well}
use Rattle.fancy_code.specs.Attempt.{context_in, instrs_in, may_end_in}
use Rattle.fancy_runner.specs.Attempt.{marks_in}

-- each thread stands past the place
abbrev pub AllPast : ℕ → List Thread → Type 0
AllPast p [] = Unit {0}
AllPast p (t ∷ ts) = (p < t.place) × AllPast p ts

-- each thread stands at the place
abbrev pub AllAt : ℕ → List Thread → Type 0
AllAt p [] = Unit {0}
AllAt p (t ∷ ts) = (t.place ≡ p) × AllAt p ts

-- no thread stands past the place
abbrev pub AllUpTo : ℕ → List Thread → Type 0
AllUpTo p [] = Unit {0}
AllUpTo p (t ∷ ts) = (t.place ≤ p) × AllUpTo p ts

-- a thread that is preferred to another stands where that does, or past it
abbrev pub AreRising : List Thread → Type 0
AreRising [] = Unit {0}
AreRising (t ∷ ts) = AllUpTo t.place ts × AreRising ts

-- `good` tests the place of an outcome; pairs at places before `low` are left out
module _ (good : ℕ → Bool) (x : Context) (low limit : ℕ) (code : List Instruction) (deep : ℕ) where
  -- the thread comes no more to a pair of this rank at this place: it stands past that, or there at a lower rank
  abbrev pub IsPast : ℕ → ℕ → Thread → Type 0
  IsPast r i t = (i < t.place) ⊎ ((i ≡ t.place) × (rank x limit code deep t.at t.place < r))

  -- an outcome was found at the place or past it
  abbrev pub FoundFrom : ℕ → Option State → Type 0
  FoundFrom i None = ⊥
  FoundFrom i (Some s) = i ≤ s.place

  -- Some thread hits, or else what was found stands for it. Neither that thread nor one before it comes to such a pair any more.
  abbrev pub HitsPast : ℕ → ℕ → List Thread → Option State → Type 0
  HitsPast r i [] found = FoundFrom i found
  HitsPast r i (t ∷ ts) found = IsPast r i t × (Hits good x low limit code deep t.at t.place ⊎ HitsPast r i ts found)

  -- a marked pair that hits is answered for by a thread that is still to be followed, or by what was found
  abbrev pub CoversAll : Marks → List Thread → Option State → Type 0
  CoversAll table ts found = (q i : ℕ) → WasVisited good x low limit code deep table q i → Hits good x low limit code deep q i
      → HitsPast (rank x limit code deep q i) i ts found

  -- What a sweep has before it: threads in order of preference, and the state that was found, to which all of them are preferred.
  pub record Sweeping (kept : ℕ) (goal : Option State) (table : Marks) (ts : List Thread) (found : Option State) : Type 0 where
    pub all : AllKnown x limit code deep kept ts
    pub answer : option_or (first_accepted (ends_well good) (pending x limit code deep kept ts)) found ≡ goal
    pub covers : CoversAll table ts found

  -- the same after a visit of a thread, which stands between others with those that it saved
  abbrev pub Swept : ℕ → Next → Option State → Marks → List Thread → Thread → List Thread → Option State → Type 0
  Swept kept On goal table front t back found = Sweeping kept goal table (front ++ t ∷ back) found
  Swept kept Dead goal table front t back found = Sweeping kept goal table (front ++ back) found
  Swept kept Found goal table front t back found = Sweeping kept goal table front (Some (state_of kept t))

module _ (a : Attempt) where
  -- what a sweep has before it, in an attempt
  abbrev pub SweepingIn : ℕ → ℕ → ℕ → Option State → List Bool → List Thread → Option State → Type 0
  SweepingIn low kept deep goal table ts found =
      Sweeping (may_end_in a) (context_in a) low a.last (instrs_in a) deep kept goal (marks_in a table) ts found

  -- the same after a visit
  abbrev pub SweptIn : ℕ → ℕ → ℕ → Next → Option State → List Bool → List Thread → ThreadStack → List Thread → Option State → Type 0
  SweptIn low kept deep next goal table front ts back found =
      Swept (may_end_in a) (context_in a) low a.last (instrs_in a) deep kept next goal (marks_in a table) front ts.current (ts.saved ++ back) found

  -- the same after all that a thread leads to at a place was followed, up to later places: `back` was after it, and is left out where an outcome was found
  abbrev pub SweptTo : ℕ → ℕ → ℕ → Option ℕ → Option State → List Bool → List Thread → List Thread → List Slot → Option State → Type 0
  SweptTo low kept deep None goal table front back slots found = SweepingIn low kept deep goal table (front ++ back) found
  SweptTo low kept deep (Some end) goal table front back slots found = SweepingIn low kept deep goal table front (found_state kept (Some end) slots)
