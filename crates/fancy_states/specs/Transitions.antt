-- The table of a search: what is said there of a row and a character.
use Rattle.std.specs.Prelude.{◌≡◌, ◌≢◌, ◌+◌, ◌*◌, ◌<◌, ℕ, List, None, Some, true, get_or, is_some, length, slice_get}
use Rattle.fancy_alphabet.specs.declared.sight.Sight.{Sight}
use Rattle.fancy_alphabet.specs.Sides.{number_of, sides_of}
use Rattle.fancy_alphabet.specs.declared.side.Side.{Side}
use Rattle.fancy_states.specs.Slots.{IsIn, nothing, unknown}
use Rattle.fancy_states.specs.declared.cells.Cell.{Cell}
use Rattle.fancy_states.specs.declared.slots.Slot.{Slot}
use Rattle.fancy_states.specs.declared.transitions.Transition.{Transition}
use Rattle.fancy_alphabet.specs.Classes.{IsColumn, row_start}
use Rattle.fancy_alphabet.specs.declared.classes.Classes.{Classes}
use Rattle.fancy_states.specs.declared.transitions.Kind.{Kind}
use Rattle.fancy_states.specs.declared.transitions.Transitions.{Transitions}
use Rattle.fancy_states.specs.declared.transitions.View.{View}
use Rattle.fancy_states.specs.declared.transitions.Kind.TheVariants.{Unknown, Quiet, Mixed, Matching}
use Rattle.fancy_states.specs.declared.origin.Origin.TheVariants as origin

-- The step is that of a cell from the row on what is seen, and leads to where its rows have their columns after it.
pub record IsTransition (classes : Classes) (cells : List Cell) (row : ℕ) (sight : Sight) (t : Transition) : Type 0 where
  pub stands : t.cell < length cells
  pub from : (c : Cell) → slice_get cells t.cell ≡ Some c → c.row ≡ row
  pub on : (c : Cell) → slice_get cells t.cell ≡ Some c → c.sight ≡ sight
  pub next : (c : Cell) → slice_get cells t.cell ≡ Some c → c.next ≡ t.next
  pub begun : (c : Cell) → slice_get cells t.cell ≡ Some c → c.begun ≡ t.begun
  pub origin : (c : Cell) → slice_get cells t.cell ≡ Some c → c.origin ≡ t.origin
  pub ahead : t.ahead ≡ row_start classes t.next sight.after
  pub opened : t.opened ≡ row_start classes t.begun sight.after

-- in which no way ended with an outcome
abbrev pub IsQuiet : List Cell → Transition → Type 0
IsQuiet cells t = (c : Cell) → slice_get cells t.cell ≡ Some c → c.matched ≡ None

-- in which one did
abbrev pub IsMatching : List Cell → Transition → Type 0
IsMatching cells t = (c : Cell) → slice_get cells t.cell ≡ Some c → is_some c.matched ≡ true

-- it is told of which ways those come that go on
abbrev pub IsSorted : Transition → Type 0
IsSorted t = t.origin ≢ origin.Mixed

-- what an entry of this kind says of its step
abbrev pub IsOfKind : Kind → Classes → List Cell → ℕ → Sight → Transition → Type 0
IsOfKind Unknown classes cells row sight t = Unit {0}
IsOfKind Quiet classes cells row sight t = IsTransition classes cells row sight t × IsQuiet cells t × IsSorted t
IsOfKind Mixed classes cells row sight t = IsTransition classes cells row sight t × IsQuiet cells t
IsOfKind Matching classes cells row sight t = IsTransition classes cells row sight t × IsMatching cells t

abbrev pub IsEntry : Classes → List Cell → ℕ → Sight → Transition → Type 0
IsEntry classes cells row sight t = IsOfKind t.kind classes cells row sight t

-- what the table has of a row and a column
abbrev pub entry_at : Transitions → ℕ → ℕ → Transition
entry_at table row column = get_or table.entries.items (row * table.classes.width + column) unknown

-- what is seen where the character of a slot is read, after this side
abbrev pub slot_sight : Side → Slot → Sight
slot_sight before s = record { before = before; after = s.after; reading = Some (record { code = s.code; width = s.width }) }

-- a slot of a character has the step from each row whose columns begin there
abbrev pub IsSlot : Classes → List Cell → Slot → Type 0
IsSlot classes cells s = s.code ≢ nothing → (row : ℕ) (before : Side) → number_of before < sides_of classes.tests → s.start ≡ row_start classes row before
    → IsEntry classes cells row (slot_sight before s) s.entry

-- Each entry of the table is such a step, on what is seen in its column.
pub record AreTold (cells : List Cell) (table : Transitions) : Type 0 where
  pub quiet : (row column : ℕ) (sight : Sight) → IsColumn table.classes sight column
      → (entry_at table row column).kind ≡ Quiet → IsOfKind Quiet table.classes cells row sight (entry_at table row column)
  pub mixed : (row column : ℕ) (sight : Sight) → IsColumn table.classes sight column
      → (entry_at table row column).kind ≡ Mixed → IsOfKind Mixed table.classes cells row sight (entry_at table row column)
  pub matching : (row column : ℕ) (sight : Sight) → IsColumn table.classes sight column
      → (entry_at table row column).kind ≡ Matching → IsOfKind Matching table.classes cells row sight (entry_at table row column)
  -- and so is each slot of a character, from each row whose columns begin there
  pub apart_quiet : (s : Slot) → IsIn table.slots.items.items s → s.code ≢ nothing → (row : ℕ) (before : Side) → number_of before < sides_of table.classes.tests
      → s.start ≡ row_start table.classes row before → s.entry.kind ≡ Quiet → IsOfKind Quiet table.classes cells row (slot_sight before s) s.entry
  pub apart_mixed : (s : Slot) → IsIn table.slots.items.items s → s.code ≢ nothing → (row : ℕ) (before : Side) → number_of before < sides_of table.classes.tests
      → s.start ≡ row_start table.classes row before → s.entry.kind ≡ Mixed → IsOfKind Mixed table.classes cells row (slot_sight before s) s.entry
  pub apart_matching : (s : Slot) → IsIn table.slots.items.items s → s.code ≢ nothing → (row : ℕ) (before : Side) → number_of before < sides_of table.classes.tests
      → s.start ≡ row_start table.classes row before → s.entry.kind ≡ Matching → IsOfKind Matching table.classes cells row (slot_sight before s) s.entry

-- The table, as it is read.
pub record IsView (table : Transitions) (v : View) : Type 0 where
  pub columns : v.columns.now ≡ table.classes.columns.items
  pub entries : v.entries.now ≡ table.entries.items
  pub slots : v.slots.now ≡ table.slots.items.items
  pub tests : v.tests ≡ table.classes.tests
