-- What the exports on names of groups answer.
use Rattle.std.specs.Prelude.{◌≡◌, ℕ, List, Option, None, Some, IsUtf8, chars, slice_get}
use Rattle.std.specs.Option.{option_and_then}
use Rattle.fancy_regex.specs.declared.Regex.{Regex}
use Rattle.fancy_regex.specs.CaptureNames.{group_named, names_of_groups}
use Rattle.fancy_regex.specs.Text.{Text}
use Rattle.fancy_regex_c.specs.Buffers.{Puts}

-- `group_number`: DONE with the number of the last group that has the name; NONE where no group has it, or the bytes are no UTF-8
pub data TellsNumber (regex : Regex) (name : List ℕ) (number answer : ℕ) : Type 0 where
  is_numbered : answer ≡ 0 → IsUtf8 name → group_named regex (chars name) ≡ Some number → TellsNumber regex name number answer
  is_unknown : answer ≡ 1 → (IsUtf8 name → group_named regex (chars name) ≡ None) → TellsNumber regex name number answer

-- the name of the group with this number; none past the last group
abbrev pub name_of : Regex → ℕ → Option Text
name_of regex number = option_and_then (λ name. name) (slice_get (names_of_groups regex) number)

-- `group_name`: the buffer gets the group's name, in UTF-8. For NONE and NO_MEMORY nothing is written and 0 is told.
pub data TellsName (regex : Regex) (number : ℕ) (old new : List ℕ) (wanted answer : ℕ) : Type 0 where
  is_named : (name : List ℕ) → IsUtf8 name → name_of regex number ≡ Some (chars name) → Puts name old new wanted answer
      → TellsName regex number old new wanted answer
  is_nameless : answer ≡ 1 → name_of regex number ≡ None → wanted ≡ 0 → new ≡ old → TellsName regex number old new wanted answer
  is_no_memory : answer ≡ 4 → wanted ≡ 0 → new ≡ old → TellsName regex number old new wanted answer
