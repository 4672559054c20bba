-- What stands for an iterator over matches: the regex, the haystack, what the next search is asked, and what is left.
use Rattle.std.specs.Prelude.{◌≡◌, ◌+◌, ℕ, Bool, true, false, List, [], ◌∷◌, Option, Result, map}
use Rattle.fancy_input.specs.declared.span.Span.{Span}
use Rattle.fancy_tree.specs.declared.error.Error.{Error}
use Rattle.fancy_input.specs.declared.input.Request.{Request}
use Rattle.fancy_core.specs.declared.regex.Regex.{Regex}
use Rattle.fancy_core.specs.declared.iter.Matches.{Matches}
use Rattle.fancy_core.specs.Regexes.{program_in}
use Rattle.fancy_search.specs.declared.searcher.Onward.{Onward}
use Rattle.fancy_search.specs.MatchList.{Scan, MatchItem, span_of_item}
use Rattle.fancy_search.specs.Remaining.{Standing, scan, items_left, items_end, turns_left, next_start, refused_next, allowed_next}
use Rattle.fancy_core.specs.NextAnswers.{ByAnswer}
use Rattle.fancy_search.specs.Searchers.{standing_of}

abbrev pub regex_in : {S : Type 0} {g : _} → Matches S g → Regex
regex_in m = m.regex.now

abbrev pub haystack_of : {S : Type 0} {g : _} → Matches S g → S
haystack_of m = m.searcher.haystack

-- what the next search is asked
abbrev pub next_request : {S : Type 0} {g : _} → Matches S g → Request
next_request m = m.searcher.request

-- how it goes on from there
abbrev pub onward_of : {S : Type 0} {g : _} → Matches S g → Onward
onward_of m = record { continues = m.searcher.continues; skips_empty = m.searcher.skips_empty }

-- whether nothing more comes
abbrev pub has_ended : {S : Type 0} {g : _} → Matches S g → Bool
has_ended m = m.searcher.ended

-- where it stands
abbrev pub standing_in : {S : Type 0} {g : _} → Matches S g → Standing
standing_in m = standing_of m.searcher

-- what it searches, again and again; a haystack is text where `text` holds of it, and has these bytes
abbrev pub scan_in : {S : Type 0} {g : _} → (S → Bool) → (S → List ℕ) → Matches S g → Scan
scan_in text bytes m = scan (program_in m.regex.now) (text m.searcher.haystack) (bytes m.searcher.haystack) m.searcher.request

-- the items that are left
abbrev pub left_in : {S : Type 0} {g : _} → (S → Bool) → (S → List ℕ) → Matches S g → List MatchItem
left_in text bytes m = items_left (scan_in text bytes m) (standing_in m)

-- the spans of the matches that are left
abbrev pub spans_left : {S : Type 0} {g : _} → (S → Bool) → (S → List ℕ) → Matches S g → List Span
spans_left text bytes m = map span_of_item (left_in text bytes m)

-- where the search starts that finds none, at the end of the items that are left
abbrev pub end_in : {S : Type 0} {g : _} → (S → Bool) → (S → List ℕ) → Matches S g → ℕ
end_in text bytes m = items_end (scan_in text bytes m) (standing_in m)

-- the next search may be refused by this error
abbrev pub refuses_next : {S : Type 0} {g : _} → (S → Bool) → (S → List ℕ) → Matches S g → Error → Type 0
refuses_next text bytes m e = refused_next (program_in m.regex.now) (text m.searcher.haystack) (bytes m.searcher.haystack) m.searcher.request (standing_in m) e

-- the next searches keep within their limits
abbrev pub allows_next : {S : Type 0} {g : _} → (S → Bool) → (S → List ℕ) → Matches S g → Type 0
allows_next text bytes m = allowed_next (program_in m.regex.now) (text m.searcher.haystack) (bytes m.searcher.haystack) m.searcher.request (standing_in m)

-- how many items can still come
abbrev pub items_bound : {S : Type 0} {g : _} → (S → Bool) → (S → List ℕ) → Matches S g → ℕ
items_bound text bytes m = turns_left m.searcher.ended (left_in text bytes m)

-- The end: no item was left. The next search is that which found none, and it kept within its limits.
pub record EndsMatches {S : Type 0} {g : _} (text : S → Bool) (bytes : S → List ℕ) (s t : Matches S g) : Type 0 where
  pub none : left_in text bytes s ≡ []
  pub rests : (next_request t).start ≡ end_in text bytes s
  pub allowed : allows_next text bytes s
  pub left : left_in text bytes t ≡ []
  pub ended : has_ended t ≡ true

-- An item with this span, the first of those that were left, which stands in a text with these bytes. The next search starts after
-- it, and the list's end stays where it is. The item stands only where the searches that it rests on kept within their limits.
pub record GivesMatch {S : Type 0} {g : _} (text : S → Bool) (bytes : S → List ℕ) (within : List ℕ) (span : Span) (s t : Matches S g) : Type 0 where
  pub unended : has_ended s ≡ false
  pub first : spans_left text bytes s ≡ span ∷ spans_left text bytes t
  pub within_text : within ≡ bytes (haystack_of s)
  pub moves : (next_request t).start ≡ next_start (text (haystack_of s)) (bytes (haystack_of s)) span
  pub keeps_end : end_in text bytes t ≡ end_in text bytes s
  pub allowed : allows_next text bytes s
  pub goes_on : has_ended t ≡ false

-- A refusal of the next search, after which no item is left. Its start is past the range's end then.
pub record RefusesMatch {S : Type 0} {g : _} (text : S → Bool) (bytes : S → List ℕ) (error : Error) (s t : Matches S g) : Type 0 where
  pub unended : has_ended s ≡ false
  pub refused : refuses_next text bytes s error
  pub moves : (next_request t).start ≡ (next_request s).range_end + 1
  pub left : left_in text bytes t ≡ []
  pub ended : has_ended t ≡ true

-- The same regex searches the same haystack, as it is asked, but for where the next search starts.
pub record StaysAsked {S : Type 0} {g : _} (s t : Matches S g) : Type 0 where
  pub same_regex : regex_in t ≡ regex_in s
  pub same_text : haystack_of t ≡ haystack_of s
  pub same_request : next_request t ≡ record (next_request s) { start = (next_request t).start }

-- One call of `next`, from s to t. A haystack is text where `text` holds of it, and has these bytes; an item stands in `within` and has the span `span`.
pub record IsNext {S A : Type 0} {g : _} (text : S → Bool) (bytes : S → List ℕ) (within : A → List ℕ) (span : A → Span) (s : Matches S g) (r : Option (Result A Error)) (t : Matches S g) : Type 0 where
  pub answers : ByAnswer r (EndsMatches text bytes s t) (λ x. GivesMatch text bytes (within x) (span x) s t) (λ e. RefusesMatch text bytes e s t)
  pub same : StaysAsked s t
