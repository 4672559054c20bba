-- What an automaton remembers: rows of waiting instructions, and steps between them.
use Rattle.std.specs.Prelude.{◌≡◌, ◌+◌, ◌≤◌, ℕ, length, List, [], ◌∷◌, ◌++◌, Option, None, Some, All, map, slice_get}
use Rattle.std.specs.Global.{Vec}
use Rattle.fancy_input.specs.declared.span.Span.{Span}
use Rattle.fancy_code.specs.declared.code.Code.{Code}
use Rattle.fancy_code.specs.Code.{instrs_of}
use Rattle.fancy_alphabet.specs.declared.sight.Sight.{Sight}
use Rattle.fancy_states.specs.declared.way.Way.{Way}
use Rattle.fancy_alphabet.specs.Sights.{seen_in}
use Rattle.fancy_states.specs.declared.cells.Cell.{Cell}
use Rattle.fancy_states.specs.declared.cells.Cells.{Cells}
use Rattle.fancy_states.specs.Steps.{IsStep, at_of, from_of}
use Rattle.fancy_alphabet.specs.Classes.{AreClasses}
use Rattle.fancy_states.specs.declared.origin.Origin.{Origin}
use Rattle.fancy_states.specs.Origins.{ComeFrom}
use Rattle.fancy_states.specs.Transitions.{AreTold}

abbrev pub items_or : Option (Vec ℕ) → List ℕ
items_or None = []
items_or (Some v) = v.items

-- the instructions of a row
abbrev pub ways_at : List (Vec ℕ) → ℕ → List ℕ
ways_at rows r = items_or (slice_get rows r)

-- each row stays what it is
abbrev pub KeepsRows : List (Vec ℕ) → List (Vec ℕ) → Type 0
KeepsRows rows later = (r : ℕ) (v : Vec ℕ) → slice_get rows r ≡ Some v → slice_get later r ≡ Some v

-- each step that is remembered stays what it is
abbrev pub KeepsCells : List Cell → List Cell → Type 0
KeepsCells cells later = (k : ℕ) (c : Cell) → slice_get cells k ≡ Some c → slice_get later k ≡ Some c

-- the row with this number has these instructions
abbrev pub HasRow : List (Vec ℕ) → ℕ → List ℕ → Type 0
HasRow rows r ways = (v : Vec ℕ) × (slice_get rows r ≡ Some v) × (v.items ≡ ways)

-- the one row has these ways, and the other has one more, which begins there
pub record HasRows (rows : List (Vec ℕ)) (next begun : ℕ) (ways : List ℕ) (start : ℕ) : Type 0 where
  pub waits : HasRow rows next ways
  pub opens : HasRow rows begun (ways ++ start ∷ [])

-- each row stays what it is, and there are at most so many more
pub record GrowsBy (count : ℕ) (rows later : List (Vec ℕ)) : Type 0 where
  pub kept : KeepsRows rows later
  pub more : length later ≤ length rows + count

-- the step from a row on what is seen, which leads to these ways in order
pub record IsCell (code : Code) (rows : List (Vec ℕ)) (row : ℕ) (sight : Sight) (next begun : ℕ) (came : List ℕ) (matched : Option ℕ)
    (origin : Origin) : Type 0 where
  pub ways : List ℕ
  pub after : List Way
  pub source : HasRow rows row ways
  pub leads : HasRow rows next (map at_of after)
  -- with one more way, which begins there
  pub opens : HasRow rows begun (map at_of after ++ code.start ∷ [])
  pub comes : came ≡ map from_of after
  pub comes_from : ComeFrom origin (length ways) came matched
  pub step : IsStep (instrs_of code) ways (seen_in sight) after matched
  pub halts : sight.reading ≡ None → after ≡ []

abbrev pub IsCellOf : Code → List (Vec ℕ) → Cell → Type 0
IsCellOf code rows c = IsCell code rows c.row c.sight c.next c.begun c.came.items c.matched c.origin

-- all that is remembered is true of the code, and so are the classes
abbrev pub IsFor : Cells → Code → Type 0
IsFor a code = All (IsCellOf code a.rows.lists.items) a.cells.items × AreClasses a.table.classes (instrs_of code)

-- the row with this number, if there is one, has no instruction
abbrev pub IsIdle : List (Vec ℕ) → ℕ → Type 0
IsIdle rows r = (v : Vec ℕ) → slice_get rows r ≡ Some v → v.items ≡ []

-- the step with this number is from this row on what is seen
abbrev pub HasCell : List Cell → ℕ → ℕ → Sight → Type 0
HasCell cells k row sight = (c : Cell) × (slice_get cells k ≡ Some c) × (c.row ≡ row) × (c.sight ≡ sight)

-- the row of a place: where nothing was found, one more way begins there
abbrev pub row_if : Option Span → ℕ → ℕ → ℕ
row_if None next begun = begun
row_if (Some s) next begun = next

-- how many rows and steps are kept at most
abbrev pub most_rows : ℕ
most_rows = 32_768

abbrev pub most_cells : ℕ
most_cells = 16_384

-- no more is remembered than that
pub record IsBounded (a : Cells) : Type 0 where
  pub rows : length a.rows.lists.items ≤ most_rows
  pub cells : length a.cells.items ≤ most_cells
  -- and the table tells nothing else
  pub told : AreTold a.cells.items a.table

-- and one more step with its two rows is not too much
pub record HasPlace (a : Cells) : Type 0 where
  pub rows : length a.rows.lists.items + 2 ≤ most_rows
  pub cells : length a.cells.items + 1 ≤ most_cells
  pub told : AreTold a.cells.items a.table

-- no more is remembered than may be, and all of it is true of the code
pub record HoldsFor (a : Cells) (code : Code) : Type 0 where
  pub bounded : IsBounded a
  pub all : IsFor a code

-- what is remembered stays true of any code that it is true of
abbrev pub StaysTrue : Cells → Cells → Type 0
StaysTrue old new = (code : Code) → IsFor old code → IsFor new code

-- no more is remembered than may be, if that was so, and it stays true
pub record KeepsHolding (old new : Cells) : Type 0 where
  pub bounded : IsBounded old → IsBounded new
  pub stays : StaysTrue old new

-- no row and no step is remembered
pub record IsEmpty (a : Cells) : Type 0 where
  pub rows : a.rows.lists.items ≡ []
  pub cells : a.cells.items ≡ []
  pub entries : a.table.entries.items ≡ []
  pub slots : a.table.slots.items.items ≡ []
