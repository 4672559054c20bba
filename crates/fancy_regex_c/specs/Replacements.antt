-- What `replace` answers.
use Rattle.std.specs.Prelude.{◌≡◌, ℕ, List, [], Option, None, Some, IsUtf8, map, nat_eq, true, if◌then◌else◌}
use Rattle.fancy_regex.specs.declared.Regex.{Regex}
use Rattle.fancy_regex.specs.GroupTexts.{Seen, expansion_of}
use Rattle.fancy_regex.specs.Regexes.{options_in}
use Rattle.fancy_regex.specs.Replacing.{fixed_of, seen_of, replaced, text_with_each, all_matches, first_matches, AllowsReplacing, IsRefusedAfterSome}
use Rattle.fancy_regex.specs.Requests.{whole}
use Rattle.fancy_regex.specs.Searching.{CanSearch}
use Rattle.fancy_regex_c.specs.declared.texts.Replacing.{Replacing}
use Rattle.fancy_regex_c.specs.Answers.{IsAnswerFor}
use Rattle.fancy_regex_c.specs.Buffers.{Puts, PutsNothing}

-- a text for all matches, if there is one, and else this one
abbrev pub unless_fixed : Option (List ℕ) → List ℕ → List ℕ
unless_fixed None text = text
unless_fixed (Some fixed) text = fixed

-- the text that a template gives for a match: its own where it has no `$`, and else what it expands to
abbrev pub given_by : List ℕ → Seen → List ℕ
given_by template seen = unless_fixed (fixed_of template) (expansion_of template seen)

-- the text with its first matches replaced, as many as the limit allows: by the template, or by the replacement as it is
abbrev pub text_with : Regex → List ℕ → Replacing → List ℕ
text_with regex text how =
    let items = first_matches regex text how.limit in
    if nat_eq how.literal 0
    then replaced text items (map (λ i. given_by how.replacement.now (seen_of regex text i)) items)
    else text_with_each text items how.replacement.now

-- the text and the replacement are UTF-8
pub record AreTexts (text replacement : List ℕ) : Type 0 where
  pub is_text : IsUtf8 text
  pub of_text : IsUtf8 replacement

-- the regex may search the whole text
abbrev pub IsWholePlace : Regex → List ℕ → Type 0
IsWholePlace regex text = CanSearch (options_in regex) true text (whole text)

-- `replace`: the buffer gets the text with its matches replaced; NONE where nothing matches. Both come only where the searches for the
-- matches keep within their limits of returns. For NONE and all refusals nothing is written and 0 is told.
pub data TellsReplaced (regex : Regex) (text : List ℕ) (how : Replacing) (old new : List ℕ) (wanted answer : ℕ) : Type 0 where
  is_replaced : AreTexts text how.replacement.now → IsWholePlace regex text → AllowsReplacing regex text how.limit → (all_matches regex text ≡ [] → ⊥)
      → Puts (text_with regex text how) old new wanted answer → TellsReplaced regex text how old new wanted answer
  is_none : answer ≡ 1 → AreTexts text how.replacement.now → IsWholePlace regex text → AllowsReplacing regex text how.limit → all_matches regex text ≡ []
      → PutsNothing old new wanted → TellsReplaced regex text how old new wanted answer
  is_not_text : answer ≡ 2 → (AreTexts text how.replacement.now → ⊥) → PutsNothing old new wanted → TellsReplaced regex text how old new wanted answer
  is_no_place : answer ≡ 3 → AreTexts text how.replacement.now → (IsWholePlace regex text → ⊥) → PutsNothing old new wanted
      → TellsReplaced regex text how old new wanted answer
  is_refused : AreTexts text how.replacement.now → IsWholePlace regex text → IsAnswerFor (IsRefusedAfterSome regex text how.limit) answer
      → PutsNothing old new wanted → TellsReplaced regex text how old new wanted answer
