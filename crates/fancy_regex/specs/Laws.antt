-- What the laws say of lists of matches, and of the pieces between them.
use Rattle.std.specs.Prelude.{◌≡◌, ◌+◌, ◌≤◌, ℕ, suc, min, max, Bool, List, [], ◌∷◌, Some, option_map, length, take}
use Rattle.fancy_input.specs.declared.span.Span.{Span}
use Rattle.fancy_input.specs.declared.input.Request.{Request}
use Rattle.fancy_input.specs.declared.regex_input.RegexInput.{RegexInput}
use Rattle.fancy_input.specs.Requests.{effective_start}
use Rattle.fancy_search.specs.MatchList.{MatchItem, FindsNone}
use Rattle.fancy_core.specs.declared.regex.Regex.{Regex}
use Rattle.fancy_core.specs.Pieces.{pieces, first_pieces, interleaved, texts}
use Rattle.fancy_core.specs.Regexes.{query}
use Rattle.fancy_core.specs.Searches.{scan_of_input, last_start_of_input, first_groups, groups_of_attempt}
use Rattle.fancy_meaning.specs.Search.{search}
use Rattle.fancy_regex.specs.SetMembers.{asked_alone, members_at, set_position}

-- the search at the end of the matches of an input finds none
abbrev pub EndsInNone : {S : Type 0} {g : _} → Regex → (S → Bool) → (S → List ℕ) → RegexInput S g → Type 0
EndsInNone r text bytes input = FindsNone (scan_of_input r text bytes input) (last_start_of_input r text bytes input)

-- there are at most as many as there are places to search
abbrev pub FitsPlaces : Request → List MatchItem → Type 0
FitsPlaces r items = effective_start r + length items ≤ max (effective_start r) (suc r.range_end)

-- the pieces of a text between spans, with the texts of the spans between them, are the text
abbrev pub Rejoins : List ℕ → List Span → Type 0
Rejoins t spans = interleaved (pieces t 0 spans) (texts t spans) ≡ t

-- so are the first n + 1 pieces, with the texts of the first n spans
abbrev pub RejoinsFirst : ℕ → List ℕ → List Span → Type 0
RejoinsFirst n t spans = interleaved (first_pieces (suc n) t 0 spans) (texts t (take n spans)) ≡ t

-- there is one piece more than there are spans, or as many as the limit n allows
abbrev pub CountsPieces : ℕ → List ℕ → List Span → Type 0
CountsPieces n t spans = length (first_pieces n t 0 spans) ≡ min n (suc (length spans))

-- the limit n cuts none of the pieces off
abbrev pub CutsNone : ℕ → List ℕ → List Span → Type 0
CutsNone n t spans = first_pieces n t 0 spans ≡ pieces t 0 spans

-- the limit n + 1 leaves the first n pieces as they are
abbrev pub KeepsPieces : ℕ → List ℕ → List Span → Type 0
KeepsPieces n t spans = take n (first_pieces (suc n) t 0 spans) ≡ take n (pieces t 0 spans)

-- A set of one pattern stands where the pattern's first match has its position; there its one member has an item, with the groups of that match.
pub record FindsAsOne (r : Regex) (haystack : List ℕ) (request : Request) : Type 0 where
  pub stands : set_position (asked_alone r haystack request) ≡ option_map (λ f. f.position) (search (query r haystack request))
  pub members : (p : ℕ) → set_position (asked_alone r haystack request) ≡ Some p → members_at (asked_alone r haystack request) p ≡ 0 ∷ []
  pub groups : (p : ℕ) → set_position (asked_alone r haystack request) ≡ Some p → groups_of_attempt (query r haystack request) p ≡ first_groups (query r haystack request)
