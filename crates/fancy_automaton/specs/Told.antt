-- What is read at a place, and the step that the table tells on it.
use Rattle.std.specs.Prelude.{◌≡◌, ◌≤◌, ◌<◌, ℕ, true}
use Rattle.fancy_code.specs.declared.attempt.Attempt.{Attempt}
use Rattle.fancy_code.specs.Attempt.{context_in, may_end_in}
use Rattle.fancy_alphabet.specs.Alike.{IsSeenLike}
use Rattle.fancy_alphabet.specs.Classes.{IsStart, row_start}
use Rattle.fancy_alphabet.specs.Units.{place_after}
use Rattle.fancy_alphabet.specs.declared.classes.Classes.{Classes}
use Rattle.fancy_alphabet.specs.declared.sight.Sight.{Sight}
use Rattle.fancy_states.specs.declared.cells.Cells.{Cells}
use Rattle.fancy_states.specs.declared.transitions.Transition.{Transition}
use Rattle.fancy_states.specs.Transitions.{IsEntry}

-- A character is read at a place up to another one, where a match may begin and end too. The code treats what is seen as this sight,
-- which tells where the columns of a row begin for what stands before the other place.
pub record Sees (a : Attempt) (classes : Classes) (place past : ℕ) (sight : Sight) : Type 0 where
  pub like : IsSeenLike a place sight
  pub width : place_after place like.whole.unit ≡ past
  pub forth : place < past
  pub within : past ≤ a.last
  pub good : may_end_in a past ≡ true
  pub begins : (row start : ℕ) → start ≡ row_start classes row sight.after → IsStart (context_in a) past classes row start

-- the step from a row on what is read there
abbrev pub IsTold : Attempt → Cells → ℕ → ℕ → ℕ → Transition → Type 0
IsTold a cells row place past step =
    (sight : Sight) × Sees a cells.table.classes place past sight × IsEntry cells.table.classes cells.cells.items row sight step
