-- What the exports that give lists of matches answer.
use Rattle.std.specs.Prelude.{◌≡◌, ◌<◌, ◌+◌, ◌++◌, ◌∷◌, ◌⊎◌, ℕ, Bool, List, [], length, map, drop}
use Rattle.std.specs.List.{AllByRecursion}
use Rattle.fancy_regex.specs.declared.Error.{Error}
use Rattle.fancy_regex.specs.declared.Regex.{Regex}
use Rattle.fancy_regex.specs.declared.Span.{Span as Found}
use Rattle.fancy_regex.specs.CaptureIterations.{groups_of_each}
use Rattle.fancy_regex.specs.MatchList.{MatchItem, span_of_item}
use Rattle.fancy_regex.specs.Regexes.{program_in, group_count_in}
use Rattle.fancy_regex.specs.Remaining.{refused_next, allowed_next}
use Rattle.fancy_regex.specs.Searches.{matches_onward, standing_onward}
use Rattle.fancy_regex_c.specs.declared.plain.Request.{Request}
use Rattle.fancy_regex_c.specs.declared.plain.Span.{Span}
use Rattle.fancy_regex_c.specs.Answers.{IsAnswerFor}
use Rattle.fancy_regex_c.specs.Asked.{asked, onward_from, says_text, IsAsSaid, IsPlaceIn}
use Rattle.fancy_regex_c.specs.Searches.{crossing}

-- What a list has ahead of each request. The searches for the next item there keep within their limits of returns, or one of them may be
-- refused by an error.
pub record Listing (A : Type 0) : Type 1 where
  pub ahead : Request → List A
  pub allows : Request → Type 0
  pub refuses : Request → Error → Type 0

-- the matches of a list of the library, which crosses as `tell` says
abbrev pub listed : {A : Type 0} → (List MatchItem → List A) → Regex → Bool → List ℕ → Listing A
listed tell regex text bytes = record {
  ahead = λ r. tell (matches_onward regex text bytes (asked r) (onward_from r.standing));
  allows = λ r. allowed_next (program_in regex) text bytes (asked r) (standing_onward r.start (onward_from r.standing));
  refuses = λ r e. refused_next (program_in regex) text bytes (asked r) (standing_onward r.start (onward_from r.standing)) e;
}

-- a span as it crosses
abbrev pub span_that : Found → Span
span_that s = record { start = s.start; end = s.end }

-- the span of each match
abbrev pub spans_told : List MatchItem → List Span
spans_told items = map span_that (map span_of_item items)

-- the groups of each match, of so many groups
abbrev pub rows_told : ℕ → List MatchItem → List (List Span)
rows_told width items = map (λ groups. map crossing groups) (groups_of_each width items)

abbrev pub spans_listed : Regex → Bool → List ℕ → Listing Span
spans_listed regex text bytes = listed spans_told regex text bytes

abbrev pub rows_listed : Regex → Bool → List ℕ → Listing (List Span)
rows_listed regex text bytes = listed (rows_told (group_count_in regex)) regex text bytes

-- the other asks the same but for where a list stands
abbrev pub AsksTheSame : Request → Request → Type 0
AsksTheSame r s = s ≡ record r { start = s.start; standing = s.standing }

-- An item is given: the first that is ahead. The others are ahead of another request then.
pub record GivesItem {A : Type 0} (list : Listing A) (item : A) (before after : Request) : Type 0 where
  pub allowed : list.allows before
  pub first : list.ahead before ≡ item ∷ list.ahead after
  pub same : AsksTheSame before after

-- these are given, one after another
abbrev pub GivesItems : {A : Type 0} → Listing A → List A → Request → Request → Type 0
GivesItems list [] before after = before ≡ after
GivesItems list (item ∷ items) before after = (next : Request) × GivesItem list item before next × GivesItems list items next after

-- How a call ends whose list has come to a request: DONE where the buffer is full. NONE where nothing is ahead, or a refusal of the next
-- search.
pub data EndsAt {A : Type 0} (list : Listing A) (full : Type 0) (at : Request) (answer : ℕ) : Type 0 where
  is_full : answer ≡ 0 → full → EndsAt list full at answer
  is_ended : answer ≡ 1 → list.allows at → list.ahead at ≡ [] → EndsAt list full at answer
  is_refused : IsAnswerFor (list.refuses at) answer → EndsAt list full at answer

-- Where the request is left of a call whose list has come to `at`: there, after DONE, and after NO_PLACE, where the list has not begun.
-- After all other answers nothing is ahead of it.
pub data Leaves {A : Type 0} (list : Listing A) (at after : Request) (answer : ℕ) : Type 0 where
  goes_on : (answer ≡ 0) ⊎ (answer ≡ 3) → after ≡ at → Leaves list at after answer
  ends : (answer ≡ 0 → ⊥) → (answer ≡ 3 → ⊥) → AsksTheSame at after → list.ahead after ≡ [] → Leaves list at after answer

-- These items stand at the start of the buffer, and what stood after them is kept.
abbrev pub IsPut : {A : Type 0} → List A → List A → List A → Type 0
IsPut items old new = new ≡ items ++ drop (length items) old

-- `find_all`, where the bytes are what the request says: the buffer gets the next matches of the list, where they may be searched as it
-- asks, and the request comes to where the list stands. For NO_PLACE nothing is written and 0 is told.
pub data TellsSpansIn (regex : Regex) (text : Bool) (bytes : List ℕ) (before at : Request) (old new : List Span) (written answer : ℕ) : Type 0 where
  is_given : IsPlaceIn regex text bytes before → (given : List Span) → GivesItems (spans_listed regex text bytes) given before at
      → IsPut given old new → written ≡ length given → EndsAt (spans_listed regex text bytes) (written ≡ length old) at answer
      → TellsSpansIn regex text bytes before at old new written answer
  is_no_place : answer ≡ 3 → (IsPlaceIn regex text bytes before → ⊥) → written ≡ 0 → new ≡ old → at ≡ before
      → TellsSpansIn regex text bytes before at old new written answer

-- `find_all`: so is it where the bytes are what the request says. For NOT_TEXT nothing is written and 0 is told.
pub data TellsSpans (regex : Regex) (bytes : List ℕ) (before after : Request) (old new : List Span) (written answer : ℕ) : Type 0 where
  is_read : IsAsSaid bytes before → (at : Request) → TellsSpansIn regex (says_text before) bytes before at old new written answer
      → Leaves (spans_listed regex (says_text before) bytes) at after answer → TellsSpans regex bytes before after old new written answer
  is_not_text : answer ≡ 2 → (IsAsSaid bytes before → ⊥) → written ≡ 0 → new ≡ old → after ≡ before
      → TellsSpans regex bytes before after old new written answer

-- rows one after another
abbrev pub joined : {A : Type 0} → List (List A) → List A
joined [] = []
joined (row ∷ rows) = row ++ joined rows

-- each has so many spans
abbrev pub AreRows : ℕ → List (List Span) → Type 0
AreRows width rows = AllByRecursion (λ row. length row ≡ width) rows

-- `captures_all`, likewise: the buffer gets the groups of the next matches, as many for each as the regex has. It is full where there is
-- no room for those of another.
pub data TellsRowsIn (regex : Regex) (text : Bool) (bytes : List ℕ) (before at : Request) (old new : List Span) (written answer : ℕ) : Type 0 where
  is_given : IsPlaceIn regex text bytes before → (given : List (List Span)) → GivesItems (rows_listed regex text bytes) given before at
      → AreRows (group_count_in regex) given → IsPut (joined given) old new → written ≡ length given
      → EndsAt (rows_listed regex text bytes) (length old < length (joined given) + group_count_in regex) at answer
      → TellsRowsIn regex text bytes before at old new written answer
  is_no_place : answer ≡ 3 → (IsPlaceIn regex text bytes before → ⊥) → written ≡ 0 → new ≡ old → at ≡ before
      → TellsRowsIn regex text bytes before at old new written answer

pub data TellsRows (regex : Regex) (bytes : List ℕ) (before after : Request) (old new : List Span) (written answer : ℕ) : Type 0 where
  is_read : IsAsSaid bytes before → (at : Request) → TellsRowsIn regex (says_text before) bytes before at old new written answer
      → Leaves (rows_listed regex (says_text before) bytes) at after answer → TellsRows regex bytes before after old new written answer
  is_not_text : answer ≡ 2 → (IsAsSaid bytes before → ⊥) → written ≡ 0 → new ≡ old → after ≡ before
      → TellsRows regex bytes before after old new written answer
