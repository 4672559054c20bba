-- What `next` answers.
use Rattle.std.specs.Prelude.{◌≡◌, ◌≤◌, ◌<◌, ◌*◌, ◌∷◌, ◌⊎◌, ℕ, zero, suc, Bool, List, [], None, Some, length, map, take, drop, slice_get, slice_index_or, vec_items, if◌then◌else◌}
use Rattle.fancy_regex.specs.declared.Regex.{Regex}
use Rattle.fancy_regex.specs.MatchList.{MatchItem}
use Rattle.fancy_regex.specs.Regexes.{group_count_in}
use Rattle.fancy_regex_c.specs.declared.plain.Request.{Request}
use Rattle.fancy_regex_c.specs.declared.plain.Span.{Span}
use Rattle.fancy_regex_c.specs.declared.under_way.MatchList.{MatchList}
use Rattle.fancy_regex_c.specs.Asked.{says_text, IsPlaceIn}
use Rattle.fancy_regex_c.specs.Courses.{Course, ahead, WantsMore, HasEnded, Follows, FindsMore, TellsNext}
use Rattle.fancy_regex_c.specs.Lists.{Listing, listed, spans_told, rows_told, AsksTheSame}
use Rattle.fancy_regex_c.specs.Searches.{crossing}
use Rattle.fancy_regex_c.specs.UnderWay.{owned_bytes, is_owned_text}

-- how many spans of a match a list gives: those of its groups, or that of the match alone
abbrev pub width_by : Bool → Regex → ℕ
width_by has_groups regex = if has_groups then group_count_in regex else 1

-- these spans of each match
abbrev pub told_by : Bool → Regex → List MatchItem → List (List Span)
told_by has_groups regex items = if has_groups then rows_told (group_count_in regex) items else map (λ s. s ∷ []) (spans_told items)

-- so many rows, of so many spans each, one after another
abbrev pub rows_of : ℕ → ℕ → List Span → List (List Span)
rows_of zero width spans = []
rows_of (suc n) width spans = take width spans ∷ rows_of n width (drop width spans)

-- the matches of a list, with their groups or not
abbrev pub listed_by : Bool → Regex → Bool → List ℕ → Listing (List Span)
listed_by has_groups regex text bytes = listed (told_by has_groups regex) regex text bytes

abbrev pub list_listing : MatchList → Listing (List Span)
list_listing l = listed_by l.has_groups l.regex.value (is_owned_text l.haystack) (owned_bytes l.haystack)

-- how far it has come
abbrev pub match_course : MatchList → Course (List Span)
match_course l = record {
  ready = drop l.progress.given (rows_of l.progress.ready (width_by l.has_groups l.regex.value) (vec_items l.spans));
  further = (list_listing l).ahead l.request;
  at_end = (list_listing l).allows l.request × ((list_listing l).ahead l.request ≡ []);
  refuses = (list_listing l).refuses l.request;
  no_place = IsPlaceIn l.regex.value (is_owned_text l.haystack) (owned_bytes l.haystack) l.request → ⊥;
  progress = l.progress;
}

-- the list is of this regex, these bytes and this request, from which it has gone on
pub record IsMatchListOf (regex : Regex) (bytes : List ℕ) (r : Request) (l : MatchList) : Type 0 where
  pub of_regex : l.regex.value ≡ regex
  pub of_bytes : owned_bytes l.haystack ≡ bytes
  pub of_text : is_owned_text l.haystack ≡ says_text r
  pub of_request : AsksTheSame r l.request
  pub room : 0 < l.progress.room
  pub found : l.progress.given < l.progress.ready → l.progress.ready * width_by l.has_groups l.regex.value ≤ length (vec_items l.spans)
  pub follows : HasEnded l.progress ⊎ Follows (match_course l)

-- it is such a list, with groups or not, and has given nothing
pub record IsNewMatchListOf (has_groups : Bool) (regex : Regex) (bytes : List ℕ) (r : Request) (l : MatchList) : Type 0 where
  pub list : IsMatchListOf regex bytes r l
  pub groups : l.has_groups ≡ has_groups
  pub all : ahead (match_course l) ≡ (listed_by has_groups regex (says_text r) bytes).ahead r
  pub unended : HasEnded l.progress → ⊥

-- the list l, which had no match ready, becomes m, with the next ones
pub record FindsMatches (l m : MatchList) : Type 0 where
  pub same_regex : m.regex.value ≡ l.regex.value
  pub same_haystack : m.haystack ≡ l.haystack
  pub same_groups : m.has_groups ≡ l.has_groups
  pub moved : AsksTheSame l.request m.request
  pub found : m.progress.ready * width_by m.has_groups m.regex.value ≤ length (vec_items m.spans)
  pub finds : FindsMore (match_course l) (match_course m)

-- so does it where it wants more; else it stays as it is
pub data ReadiesMatches (l m : MatchList) : Type 0 where
  has_some : (WantsMore l.progress → ⊥) → m ≡ l → ReadiesMatches l m
  finds : WantsMore l.progress → FindsMatches l m → ReadiesMatches l m

-- these spans are written, as many as there is room for, and after them absent ones
abbrev pub IsRow : List Span → List Span → Type 0
IsRow written row = (k : ℕ) → k < length written → slice_get written k ≡ Some (slice_index_or row k (crossing None))

-- `next`, which makes l the list m, of the same regex, bytes and request; a list that has ended gives no more
pub record MovesMatchList (regex : Regex) (bytes : List ℕ) (r : Request) (l m : MatchList) (old new : List Span) (answer : ℕ) : Type 0 where
  pub stays : IsMatchListOf regex bytes r m
  pub same_groups : m.has_groups ≡ l.has_groups
  pub tells : TellsNext (match_course l) (match_course m) (IsRow new) (λ _. new ≡ old) answer
  pub ended : HasEnded l.progress → answer ≡ 1

-- so is it, whatever it is a list of
abbrev pub IsNextMatch : MatchList → MatchList → List Span → List Span → ℕ → Type 0
IsNextMatch l m old new answer = (regex : Regex) (bytes : List ℕ) (r : Request) → IsMatchListOf regex bytes r l → MovesMatchList regex bytes r l m old new answer
