-- The thread that a search follows and those that it saved, each with slots of its own.
use Rattle.std.specs.Prelude.{◌≡◌, ℕ, List, [], ◌∷◌, Option, Some, None, slice_set, slice_index_or}
use Rattle.fancy_input.specs.Spans.{from_to}
use Rattle.fancy_code.specs.Instructions.{Instruction, Split, Open, Close}
use Rattle.fancy_code.specs.Run.{instr_at}
use Rattle.fancy_code.specs.declared.slot.Slot.{Slot}
use Rattle.fancy_runner.specs.declared.pair.Pair.{Pair}
use Rattle.fancy_input.specs.declared.work.Work.{Work}
use Rattle.fancy_input.specs.Work.{went_back_within}
use Rattle.fancy_code.specs.Thread.{Thread, empty_slot}

-- the thread that is followed, and those that were saved, the last one first
pub record ThreadStack : Type 0 where
  pub current : Thread
  pub saved : List Thread

-- what is held of the threads: the slots of the one that is followed, and those that were saved
pub record HeldThreads : Type 0 where
  pub slots : List Slot
  pub saved : List Thread

-- What is kept of them: the slots and the saved threads as they were up to some pair, and the pairs that were passed from there on,
-- the last one first. Only pairs are kept at which the thread chose a way, or where a group begins or ends.
pub record KeptThreads : Type 0 where
  pub slots : List Slot
  pub saved : List Thread
  pub passed : List Pair

-- the thread that stands at a pair
abbrev pub thread_of : Pair → List Slot → Thread
thread_of pair slots = record { at = pair.at; place = pair.place; slots = slots }

-- the threads, of which the one that is followed stands at a pair
abbrev pub stack_of : Pair → HeldThreads → ThreadStack
stack_of pair held = record { current = thread_of pair held.slots; saved = held.saved }

-- the thread that begins at a pair, alone
abbrev pub begun_at : Pair → List Slot → ThreadStack
begun_at pair slots = record { current = thread_of pair slots; saved = [] }

-- what is known of a group
abbrev pub slot_at : List Slot → ℕ → Slot
slot_at slots group = slice_index_or slots group empty_slot

-- the slot once its group begins at a place, and once it ends there
abbrev pub begun_slot : Slot → ℕ → Slot
begun_slot slot place = record { from = place; span = slot.span }

abbrev pub ended_slot : Slot → ℕ → Slot
ended_slot slot place = record { from = slot.from; span = Some (from_to slot.from place) }

-- the slots once an instruction was passed at a place
abbrev pub slots_past : Instruction → ℕ → List Slot → List Slot
slots_past (Open group next) place slots = slice_set slots group (begun_slot (slot_at slots group) place)
slots_past (Close group next) place slots = slice_set slots group (ended_slot (slot_at slots group) place)
slots_past i place slots = slots

-- the slots where a group begins at a place, if one does
abbrev pub with_group : Option ℕ → ℕ → List Slot → List Slot
with_group None place slots = slots
with_group (Some group) place slots = slots_past (Open group 0) place slots

-- where the other way begins, if the instruction is a choice between two
abbrev pub other_way : Instruction → ℕ → Option Pair
other_way (Split first second) place = Some (record { at = second; place = place })
other_way i place = None

-- one more thread is saved, if there is one
abbrev pub with_way : Option Pair → List Slot → List Thread → List Thread
with_way None slots ts = ts
with_way (Some pair) slots ts = thread_of pair slots ∷ ts

module _ (code : List Instruction) where
  -- the slots once these pairs were passed, the last one first
  abbrev pub slots_after : List Pair → List Slot → List Slot
  slots_after [] slots = slots
  slots_after (p ∷ ps) slots = slots_past (instr_at code p.at) p.place (slots_after ps slots)

  -- the saved threads once these pairs were passed: the other way of each choice, with the slots that there were
  abbrev pub saved_after : List Pair → List Slot → List Thread → List Thread
  saved_after [] slots ts = ts
  saved_after (p ∷ ps) slots ts =
      with_way (other_way (instr_at code p.at) p.place) (slots_after ps slots) (saved_after ps slots ts)

  -- the threads that are meant by what is kept of them
  abbrev pub held_of : KeptThreads → HeldThreads
  held_of kept = record {
    slots = slots_after kept.passed kept.slots;
    saved = saved_after kept.passed kept.slots kept.saved;
  }

-- the threads that stand at these pairs, all with the same slots
abbrev pub threads_at : List Slot → List Pair → List Thread
threads_at slots [] = []
threads_at slots (p ∷ ps) = thread_of p slots ∷ threads_at slots ps

-- nothing was saved, and no pair passed
abbrev pub AreFresh : KeptThreads → Type 0
AreFresh kept = (kept.saved ≡ []) × (kept.passed ≡ [])

-- a choice was passed at a pair, whose other way begins at `second`
abbrev pub SavedWay : Pair → ℕ → KeptThreads → KeptThreads → Type 0
SavedWay pair second old new = (code : List Instruction) (first : ℕ) → instr_at code pair.at ≡ Split first second
    → ((held_of code new).slots ≡ (held_of code old).slots)
    × ((held_of code new).saved
    ≡ thread_of (record { at = second; place = pair.place }) (held_of code old).slots ∷ (held_of code old).saved)

-- an instruction that is no choice was passed at a pair
abbrev pub PassedInstr : Pair → Instruction → KeptThreads → KeptThreads → Type 0
PassedInstr pair i old new = (code : List Instruction) → instr_at code pair.at ≡ i
    → ((held_of code new).slots ≡ slots_past i pair.place (held_of code old).slots)
    × ((held_of code new).saved ≡ (held_of code old).saved)

-- of the pairs that were passed those from the last choice on were taken away, and this is the other way from there, if there was one
abbrev pub TookWay : List Instruction → Option Pair → List Pair → List Pair → Type 0
TookWay code None old new = (new ≡ []) × ((slots : List Slot) (ts : List Thread) → saved_after code old slots ts ≡ ts)
TookWay code (Some way) old new = (slots : List Slot) (ts : List Thread)
    → saved_after code old slots ts ≡ thread_of way (slots_after code new slots) ∷ saved_after code new slots ts

-- what going back to the branch that was saved last did
abbrev pub Backed : List Instruction → Option Pair → KeptThreads → KeptThreads → Work → Work → Type 0
Backed code None old new before after =
    ((held_of code old).saved ≡ []) × (new ≡ record { slots = old.slots; saved = []; passed = [] }) × (after ≡ before)
Backed code (Some pair) old new before after =
    ((held_of code old).saved ≡ thread_of pair (held_of code new).slots ∷ (held_of code new).saved)
    × (after ≡ went_back_within before)
