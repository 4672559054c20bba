-- The threads of a backlog, from which the oldest is taken first.
use Rattle.std.specs.Prelude.{◌≡◌, List, [], ◌∷◌, ◌++◌, Option, Some, None, drop, reverse}
use Rattle.fancy_code.specs.Instructions.{Instruction}
use Rattle.fancy_code.specs.Thread.{Thread}
use Rattle.fancy_runner.specs.Threads.{KeptThreads, thread_of, threads_at, with_way, held_of}
use Rattle.fancy_runner.specs.declared.pair.Pair.{Pair}
use Rattle.fancy_runner.specs.declared.backlog.Backlog.{Backlog}

-- what is kept of the saved threads that were not taken out
abbrev pub kept_in : Backlog → KeptThreads
kept_in b = record {
  slots = b.saved.slots.items;
  saved = threads_at b.saved.slots.items (reverse (drop b.begun b.saved.branches.items));
  passed = reverse (drop b.gone b.saved.passed.items);
}

-- the threads that were not taken out, in order of preference: the one that was followed last, and the saved ones
abbrev pub threads_in_backlog : List Instruction → Backlog → List Thread
threads_in_backlog code b = with_way b.current (held_of code (kept_in b)).slots (held_of code (kept_in b)).saved

-- the oldest thread was taken out, whose slots are those of the backlog now; or there was none
abbrev pub TookOldest : List Instruction → Option Pair → Backlog → Backlog → Type 0
TookOldest code None old new = (threads_in_backlog code old ≡ []) × (threads_in_backlog code new ≡ [])
TookOldest code (Some pair) old new =
    threads_in_backlog code old ≡ threads_in_backlog code new ++ thread_of pair new.saved.slots.items ∷ []

-- The same where no branch is left and the pairs that were passed are passed anew: the other way from the next choice was taken out, or
-- there was none, and the slots are those of the thread that was followed last.
abbrev pub TookNext : List Instruction → Option Pair → Backlog → Backlog → Type 0
TookNext code None old new =
    (threads_in_backlog code old ≡ with_way old.current new.saved.slots.items [])
    × (kept_in new ≡ record { slots = new.saved.slots.items; saved = []; passed = [] })
TookNext code (Some pair) old new =
    threads_in_backlog code old ≡ threads_in_backlog code new ++ thread_of pair new.saved.slots.items ∷ []
