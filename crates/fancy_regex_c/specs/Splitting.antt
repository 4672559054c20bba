-- What `split` answers.
use Rattle.std.specs.Prelude.{◌≡◌, ℕ, zero, suc, Bool, List, [], ◌∷◌, length, take, IsUtf8}
use Rattle.fancy_regex.specs.declared.Error.{Error}
use Rattle.fancy_regex.specs.declared.Regex.{Regex}
use Rattle.fancy_regex.specs.declared.Request.{Request}
use Rattle.fancy_regex.specs.declared.Span.{Span as Found}
use Rattle.fancy_regex.specs.Limited.{Refuses}
use Rattle.fancy_regex.specs.Regexes.{query_in_turn}
use Rattle.fancy_regex.specs.Requests.{whole}
use Rattle.fancy_regex.specs.Splits.{match_spans}
use Rattle.fancy_regex_c.specs.declared.plain.Span.{Span}
use Rattle.fancy_regex_c.specs.Answers.{IsAnswerFor}
use Rattle.fancy_regex_c.specs.Buffers.{done_if, filled}
use Rattle.fancy_regex_c.specs.Replacements.{IsWholePlace}

-- where the pieces between these spans stand, from a place on: the last one is the rest, up to the end
abbrev pub between : ℕ → ℕ → List Found → List Span
between end at [] = record { start = at; end = end } ∷ []
between end at (x ∷ xs) = record { start = at; end = x.start } ∷ between end x.end xs

-- the first n pieces, of which the last is the rest; nothing for none
abbrev pub first_between : ℕ → ℕ → ℕ → List Found → List Span
first_between zero end at xs = []
first_between (suc n) end at xs = between end at (take n xs)

-- where the pieces of a text between its matches stand, so many at most
abbrev pub pieces_of : Regex → List ℕ → ℕ → List Span
pieces_of regex text limit = first_between limit (length text) 0 (match_spans regex text)

-- One of the searches of a list is refused by this error: from some start, with `\G` on or off.
pub record RefusesOneOf (regex : Regex) (bytes : List ℕ) (request : Request) (e : Error) : Type 0 where
  pub start : ℕ
  pub on : Bool
  pub refused : Refuses regex (query_in_turn regex bytes (record request { start = start }) on) e

-- `split`: the buffer gets where the pieces stand. For NOT_TEXT and NO_PLACE nothing is written; for all refusals 0 is told.
pub data TellsPieces (regex : Regex) (text : List ℕ) (limit : ℕ) (old new : List Span) (wanted answer : ℕ) : Type 0 where
  is_cut : answer ≡ done_if wanted (length old) → IsUtf8 text → IsWholePlace regex text → wanted ≡ length (pieces_of regex text limit)
      → new ≡ filled (pieces_of regex text limit) old → TellsPieces regex text limit old new wanted answer
  is_not_text : answer ≡ 2 → (IsUtf8 text → ⊥) → wanted ≡ 0 → new ≡ old → TellsPieces regex text limit old new wanted answer
  is_no_place : answer ≡ 3 → IsUtf8 text → (IsWholePlace regex text → ⊥) → wanted ≡ 0 → new ≡ old
      → TellsPieces regex text limit old new wanted answer
  is_refused : IsUtf8 text → IsWholePlace regex text → IsAnswerFor (RefusesOneOf regex text (whole text)) answer → wanted ≡ 0
      → TellsPieces regex text limit old new wanted answer
