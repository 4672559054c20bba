-- What the exports that make new texts answer.
use Rattle.std.specs.Prelude.{◌≡◌, ℕ, List, IsUtf8}
use Rattle.fancy_regex.specs.Escapes.{escape_of}
use Rattle.fancy_regex_c.specs.Buffers.{Puts}

-- `escape`: the buffer gets the text with its escapes. For NOT_TEXT and NO_MEMORY nothing is written and 0 is told.
pub data TellsEscaped (text old new : List ℕ) (wanted answer : ℕ) : Type 0 where
  is_escaped : IsUtf8 text → Puts (escape_of text) old new wanted answer → TellsEscaped text old new wanted answer
  is_no_utf8 : answer ≡ 2 → (IsUtf8 text → ⊥) → wanted ≡ 0 → new ≡ old → TellsEscaped text old new wanted answer
  is_no_memory : answer ≡ 4 → IsUtf8 text → wanted ≡ 0 → new ≡ old → TellsEscaped text old new wanted answer

-- `explain`: the buffer gets a text. For NO_MEMORY nothing is written and 0 is told.
pub data TellsText (old new : List ℕ) (wanted answer : ℕ) : Type 0 where
  is_told : (text : List ℕ) → IsUtf8 text → Puts text old new wanted answer → TellsText old new wanted answer
  is_no_memory : answer ≡ 4 → wanted ≡ 0 → new ≡ old → TellsText old new wanted answer
