-- What is remembered, told by what the cells hold alone, so that a struct may keep it as a fact.
use Rattle.std.specs.Prelude.{◌≡◌, ◌<◌, ℕ, Bool, true, List, [], ◌∷◌, ◌++◌, Option, None, All, length}
use Rattle.std.specs.Global.{Vec}
use Rattle.std.specs.Option.{option_or}
use Rattle.fancy_code.specs.declared.code.Code.{Code}
use Rattle.fancy_code.specs.Code.{instrs_of}
use Rattle.fancy_code.specs.Instructions.{Instruction}
use Rattle.fancy_states.specs.declared.way.Way.{Way}
use Rattle.fancy_states.specs.declared.cells.Cell.{Cell}
use Rattle.fancy_states.specs.declared.cells.Cells.{Cells}
use Rattle.fancy_states.specs.Ways.{Ends, Solves, first_end, match_end}
use Rattle.fancy_alphabet.specs.Effects.{Seen}
use Rattle.fancy_alphabet.specs.Sights.{seen_in}
use Rattle.fancy_states.specs.Steps.{waiting}
use Rattle.fancy_alphabet.specs.Classes.{AreClasses}
use Rattle.fancy_states.specs.Cells.{ways_at}
use Rattle.fancy_states.specs.Origins.{come_from}

-- the ways at these instructions, each with the number of the way that it comes from
abbrev pub ways_from : List ℕ → List ℕ → List Way
ways_from [] came = []
ways_from (q ∷ qs) [] = []
ways_from (q ∷ qs) (f ∷ came) = record { at = q; from = f } ∷ ways_from qs came

abbrev pub IsKnownAt : (ℕ → Bool) → Way → Type 0
IsKnownAt known w = known w.at ≡ true

-- the same step, where what is known is said of each way
abbrev pub IsStepEach : List Instruction → List ℕ → Seen → List Way → Option ℕ → Type 0
IsStepEach code ways u next matched =
    (here : ℕ) (ends later : Ends) (known beyond : ℕ → Bool) (rank : ℕ → ℕ) → Solves code u here ends later known beyond rank
    → All (IsKnownAt known) (waiting 0 ways)
    → All (IsKnownAt beyond) next × (option_or (first_end later next) (match_end matched here) ≡ first_end ends (waiting 0 ways))

-- A cell is true of the code: its rows are there, and it is a step from the one to the other.
pub record IsRemembered (code : Code) (rows : List (Vec ℕ)) (c : Cell) : Type 0 where
  pub source : c.row < length rows
  pub leads : c.next < length rows
  pub opened : c.begun < length rows
  pub even : length c.came.items ≡ length (ways_at rows c.next)
  pub comes_from : come_from c.origin (length (ways_at rows c.row)) c.came.items c.matched ≡ true
  -- with one more way, which begins there
  pub opens : ways_at rows c.begun ≡ ways_at rows c.next ++ code.start ∷ []
  pub step : IsStepEach (instrs_of code) (ways_at rows c.row) (seen_in c.sight) (ways_from (ways_at rows c.next) c.came.items) c.matched
  pub halts : c.sight.reading ≡ None → ways_at rows c.next ≡ []

-- all that is remembered is true of the code, and so are the classes
abbrev pub Remembers : Cells → Code → Type 0
Remembers a code = All (IsRemembered code a.rows.lists.items) a.cells.items × AreClasses a.table.classes (instrs_of code)
