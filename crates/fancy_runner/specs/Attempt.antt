-- What the runner says of an attempt, with its code, its haystack and its bounds.
use Rattle.std.specs.Prelude.{ℕ, ◌+◌, ◌-◌, ◌*◌, Bool, true, List, ◌∷◌, Option, Some, None, replicate}
use Rattle.fancy_tree.specs.declared.tree.Assertion.{Assertion}
use Rattle.fancy_code.specs.declared.attempt.Attempt.{Attempt}
use Rattle.fancy_code.specs.declared.step.Next.{Next}
use Rattle.fancy_prefilter.specs.declared.branches.Branches.{Branches}
use Rattle.fancy_code.specs.Branches.{AreBranches}
use Rattle.fancy_code.specs.Code.{width_of, marks_of, owed_of}
use Rattle.fancy_runner.specs.Runner.{burden, threads_after, Stepped, AllFailed, FailedPast, Resting, Running, Visited}
use Rattle.fancy_meaning.specs.Context.{State, holds}
use Rattle.fancy_code.specs.Marking.{Marks}
use Rattle.fancy_runner.specs.declared.pair.Pair.{Pair}
use Rattle.fancy_code.specs.Thread.{Thread, empty_slot, thread_run, events_of, first_accepted, ends_well, Known}
use Rattle.fancy_runner.specs.Threads.{ThreadStack, HeldThreads, KeptThreads, begun_at, with_group, held_of, stack_of}
use Rattle.fancy_code.specs.Attempt.{context_in, instrs_in, may_end_in}

module _ (a : Attempt) where
  -- the threads that are meant by what is kept of them
  abbrev pub held_in : KeptThreads → HeldThreads
  held_in kept = held_of (instrs_in a) kept

  -- the same, of which the one that is followed stands at a pair
  abbrev pub stack_in : Pair → KeptThreads → ThreadStack
  stack_in pair kept = stack_of pair (held_in kept)

  -- a thread that begins at an instruction and a place, alone, with no group written
  abbrev pub begins_in : ℕ → ℕ → ThreadStack
  begins_in at place = begun_at (record { at = at; place = place }) (replicate a.code.now.groups empty_slot)

  -- the same where a group has begun at the place, if one does
  abbrev pub begins_with : Option ℕ → ℕ → ℕ → ThreadStack
  begins_with group at place = begun_at (record { at = at; place = place }) (with_group group place (replicate a.code.now.groups empty_slot))

  -- the same at the instruction that these alternatives are led to from, with the group that leads them
  abbrev pub begins_by : Branches → ℕ → ThreadStack
  begins_by b place = begins_with b.lead.group b.lead.at place

  -- the code opens with these alternatives
  abbrev pub AreBranchesIn : Branches → Type 0
  AreBranchesIn b = AreBranches b (instrs_in a) a.code.now.meaning a.code.now.start

  -- a test of the place holds, if there is one
  abbrev pub passes_in : Option Assertion → ℕ → Bool
  passes_in None place = true
  passes_in (Some test) place = holds (context_in a) test place

  -- the thread that is followed
  abbrev pub current_in : Pair → KeptThreads → Thread
  current_in pair kept = (stack_in pair kept).current

  -- those that were saved
  abbrev pub saved_in : KeptThreads → List Thread
  saved_in kept = (held_in kept).saved

  -- all threads, the one that is followed first
  abbrev pub threads_in : Pair → KeptThreads → List Thread
  threads_in pair kept = current_in pair kept ∷ saved_in kept

  -- those that are still to be followed after a step or a visit
  abbrev pub threads_left_in : Next → Pair → KeptThreads → List Thread
  threads_left_in next pair kept = threads_after next (current_in pair kept) (saved_in kept)

  -- how many places the table has marks for
  abbrev pub places_in : ℕ
  places_in = a.last - a.base + 1

  -- how many marks there are
  abbrev pub bits_in : ℕ
  bits_in = places_in * width_of a.code.now

  -- what the marks are worth that were not made
  abbrev pub owed_in : List Bool → ℕ
  owed_in table = owed_of a.code.now places_in table

  -- as many steps may still be ahead of these threads
  abbrev pub ahead_in : List Bool → List Thread → ℕ
  ahead_in table threads = burden a.code.now threads + owed_in table

  -- the pairs that were marked in a table
  abbrev pub marks_in : List Bool → Marks
  marks_in table q i = marks_of a.code.now table q (i - a.base)

  -- no pair that was marked at a place from `low` on gives an accepted outcome
  abbrev pub AllFailedIn : ℕ → ℕ → List Bool → Type 0
  AllFailedIn low deep table = AllFailed (may_end_in a) (context_in a) low a.last (instrs_in a) deep (marks_in table)

  -- of these pairs, none past the place does
  abbrev pub FailedPastIn : ℕ → ℕ → ℕ → List Bool → Type 0
  FailedPastIn low deep place table = FailedPast (may_end_in a) (context_in a) low a.last (instrs_in a) deep place (marks_in table)

  -- what the thread that is followed gives is known
  abbrev pub KnownIn : ℕ → ℕ → ThreadStack → Type 0
  KnownIn kept deep ts = Known (context_in a) a.last (instrs_in a) deep kept ts.current

  -- the first accepted outcome of the thread that is followed
  abbrev pub first_accepted_in : ℕ → ℕ → ThreadStack → Option State
  first_accepted_in kept deep ts = first_accepted (ends_well (may_end_in a)) (events_of (thread_run (context_in a) a.last (instrs_in a) deep kept ts.current))

  -- what a step did
  abbrev pub SteppedIn : ℕ → ℕ → Next → ThreadStack → ThreadStack → Type 0
  SteppedIn kept deep next old new = Stepped (context_in a) a.last (instrs_in a) deep kept next old.current old.saved new.current new.saved

  -- what the runner still has before it
  abbrev pub RunningIn : ℕ → ℕ → ℕ → Option State → List Bool → ThreadStack → Type 0
  RunningIn low kept deep goal table ts =
      Running (may_end_in a) (context_in a) low a.last (instrs_in a) deep kept goal (marks_in table) ts.current ts.saved

  -- the same once the saved branches are all that is left
  abbrev pub RestingIn : ℕ → ℕ → ℕ → Option State → List Bool → List Thread → Type 0
  RestingIn low kept deep goal table saved =
      Resting (may_end_in a) (context_in a) low a.last (instrs_in a) deep kept goal (marks_in table) saved

  -- the same after a visit
  abbrev pub VisitedIn : ℕ → ℕ → ℕ → Next → Option State → List Bool → ThreadStack → Type 0
  VisitedIn low kept deep next goal table ts =
      Visited (may_end_in a) (context_in a) low a.last (instrs_in a) deep kept next goal (marks_in table) ts.current ts.saved
