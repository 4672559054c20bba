-- The regexes of escaped texts, and what they find. A text is given by its bytes.
use Rattle.std.specs.Prelude.{◌≡◌, ◌≤◌, ◌&&◌, List, ℕ, Option, IsUtf8, true, chars, length, map, option_map}
use Rattle.fancy_tree.specs.Pattern.{Pattern, character, in_sequence}
use Rattle.fancy_syntax.specs.Dialect.{IsPattern, standard}
use Rattle.fancy_tree.specs.Limits.{most_nodes}
use Rattle.fancy_input.specs.declared.input.Request.{Request}
use Rattle.fancy_input.specs.Requests.{effective_start, positions}
use Rattle.fancy_meaning.specs.Literals.{stands_within, cuts_none, span_if, first_span}
use Rattle.fancy_search.specs.Searching.{CanSearch}
use Rattle.fancy_input.specs.declared.span.Span.{Span}
use Rattle.fancy_meaning.specs.Search.{search, span_of}
use Rattle.fancy_core.specs.declared.regex.Regex.{Regex}
use Rattle.fancy_search.specs.Options.{by_default}
use Rattle.fancy_core.specs.Regexes.{pattern_text, pattern_in, options_in, query}
use Rattle.fancy_regex.specs.Escapes.{escape_of}

-- the pattern of its characters, one after another
abbrev pub literally : List ℕ → Pattern
literally text = in_sequence (map character (chars text))

-- The regex is what `Regex::new` makes of what `escape` makes of the text. Each part is a clause of one of the two.
pub record IsOfEscape (regex : Regex) (text : List ℕ) : Type 0 where
  pub escaped : pattern_text regex ≡ escape_of text
  pub options : options_in regex ≡ by_default
  pub accepted : IsPattern standard (chars (pattern_text regex)) (pattern_in regex)

-- where a search with the regex finds a match, from its start to its end
abbrev pub span_found : Regex → List ℕ → Request → Option Span
span_found regex haystack request = option_map span_of (search (query regex haystack request))

-- the pattern is that of the characters of a text, of which there are not too many
abbrev pub IsLiterally : Pattern → List ℕ → Type 0
IsLiterally p text = (p ≡ literally text) × (length (chars text) ≤ most_nodes)

-- each search finds the text at the least place where it stands within the range and cuts no character at its ends
abbrev pub FindsTextFirst : Regex → List ℕ → Type 0
FindsTextFirst regex text =
    (haystack : List ℕ) (r : Request) → span_found regex haystack r ≡ first_span text haystack r.range_end (positions r) (effective_start r)

-- an anchored search finds it at the effective start, or nowhere
abbrev pub FindsTextAtStart : Regex → List ℕ → Type 0
FindsTextAtStart regex text =
    (haystack : List ℕ) (r : Request) → r.anchored ≡ true →
    span_found regex haystack r ≡ span_if (stands_within text haystack r.range_end (effective_start r) && cuts_none text haystack (effective_start r)) text (effective_start r)

-- and where the haystack is text, there wherever it stands there within the range
abbrev pub FindsTextInText : Regex → List ℕ → Type 0
FindsTextInText regex text =
    (haystack : List ℕ) (r : Request) → r.anchored ≡ true → IsUtf8 haystack → r.range_end ≤ length haystack → CanSearch (options_in regex) true haystack r →
    span_found regex haystack r ≡ span_if (stands_within text haystack r.range_end (effective_start r)) text (effective_start r)
