-- Threads that wait, each at a pair and with slots of its own, over one list of slots.
use Rattle.std.specs.Prelude.{◌≡◌, Bool, true, false, List, [], ◌∷◌, Option, Some, None, take, drop}
use Rattle.fancy_code.specs.Thread.{Thread}
use Rattle.fancy_runner.specs.Threads.{KeptThreads, thread_of, AreFresh}
use Rattle.fancy_code.specs.declared.slot.Slot.{Slot}
use Rattle.fancy_runner.specs.declared.pair.Pair.{Pair}
use Rattle.fancy_runner.specs.declared.row.Waiting.{Waiting}

-- the threads, the last one first: the slots of each go from where its own begin to where those of the next do
abbrev pub row_threads : List Waiting → List Slot → List Thread
row_threads [] slots = []
row_threads (w ∷ ws) slots = thread_of w.pair (drop w.from slots) ∷ row_threads ws (take w.from slots)

-- the last thread was taken away, whose slots are loaded; or there was none
abbrev pub Popped : Option Pair → List Thread → List Thread → KeptThreads → Type 0
Popped None old new loaded = (old ≡ []) × (new ≡ [])
Popped (Some pair) old new loaded = (old ≡ thread_of pair loaded.slots ∷ new) × AreFresh loaded

-- the last thread of one row was taken over to another; or there was none
abbrev pub PassedOn : Bool → List Thread → List Thread → List Thread → List Thread → Type 0
PassedOn false old new other other' = (old ≡ []) × (new ≡ []) × (other' ≡ other)
PassedOn true old new other other' = (t : Thread) × (old ≡ t ∷ new) × (other' ≡ t ∷ other)
