-- What stands for an iteration over matches: what it has left, and what it gives next. `text` and `bytes` are those of the haystack's form.
use Rattle.std.specs.Prelude.{◌≡◌, ℕ, Bool, true, List, Option}
use Rattle.std.specs.Borrow.{Bor}
use Rattle.fancy_input.specs.Spans.{from_to}
use Rattle.fancy_tree.specs.declared.error.Error.{Error}
use Rattle.fancy_input.specs.Places.{next_place}
use Rattle.fancy_search.specs.declared.program.Program.{Program}
use Rattle.fancy_search.specs.declared.searcher.FoundItem.{FoundItem}
use Rattle.fancy_search.specs.declared.searcher.Searcher.{Searcher}
use Rattle.fancy_search.specs.Groups.{IsCut}
use Rattle.fancy_search.specs.Programs.{program_options}
use Rattle.fancy_search.specs.Searching.{Suits}
use Rattle.fancy_search.specs.Remaining.{Standing, scan, upcoming, search_start, items_left, items_end, next_start, refuses_at, refused_next, allows_at, allowed_next}
use Rattle.fancy_search.specs.MatchList.{Scan, MatchItem, answer}

-- its haystack may be searched with the program
abbrev pub IsSuited : {S : Type 0} {g : _} → (S → Bool) → (S → List ℕ) → Program → Searcher S g → Type 0
IsSuited text bytes program w = Suits (program_options program) (text w.haystack) (bytes w.haystack)

-- Its next search starts there, with `\G` on or off, and passes over an empty match at its start or not; all else stays.
pub record GoesTo {S : Type 0} {g : _} (before after : Searcher S g) (start : ℕ) (on skips : Bool) : Type 0 where
  pub haystack : after.haystack ≡ before.haystack
  pub request : after.request ≡ record before.request { start = start }
  pub continues : after.continues ≡ on
  pub skips_empty : after.skips_empty ≡ skips
  pub ended : after.ended ≡ before.ended
  pub kept : after.kept ≡ before.kept
  pub groups : after.groups ≡ before.groups

-- what it searches, again and again
abbrev pub scan_of : {S : Type 0} {g : _} → (S → Bool) → (S → List ℕ) → Program → Searcher S g → Scan
scan_of text bytes program w = scan program (text w.haystack) (bytes w.haystack) w.request

-- the answer of its next search
abbrev pub answer_next : {S : Type 0} {g : _} → (S → Bool) → (S → List ℕ) → Program → Searcher S g → Option MatchItem
answer_next text bytes program w = answer (scan_of text bytes program w) w.request.start w.continues

-- where it stands
abbrev pub standing_of : {S : Type 0} {g : _} → Searcher S g → Standing
standing_of w = record { start = w.request.start; continues = w.continues; skips_empty = w.skips_empty; ended = w.ended }

-- its next item: an empty match that is passed over gives way to the next
abbrev pub item_next : {S : Type 0} {g : _} → (S → Bool) → (S → List ℕ) → Program → Searcher S g → Option MatchItem
item_next text bytes program w = upcoming (scan_of text bytes program w) (standing_of w)

-- where the search of that item starts
abbrev pub start_next : {S : Type 0} {g : _} → (S → Bool) → (S → List ℕ) → Program → Searcher S g → ℕ
start_next text bytes program w = search_start (scan_of text bytes program w) (standing_of w)

-- the items that it has left
abbrev pub items_of : {S : Type 0} {g : _} → (S → Bool) → (S → List ℕ) → Program → Searcher S g → List MatchItem
items_of text bytes program w = items_left (scan_of text bytes program w) (standing_of w)

-- where the search starts that finds none, at the end of the items that it has left
abbrev pub end_of_items : {S : Type 0} {g : _} → (S → Bool) → (S → List ℕ) → Program → Searcher S g → ℕ
end_of_items text bytes program w = items_end (scan_of text bytes program w) (standing_of w)

-- that stays where it was
abbrev pub KeepsEnd : {S : Type 0} {g : _} → (S → Bool) → (S → List ℕ) → Program → Searcher S g → Searcher S g → Type 0
KeepsEnd text bytes program before after = end_of_items text bytes program after ≡ end_of_items text bytes program before

-- its next search may be refused by this error
abbrev pub RefusesAnswer : {S : Type 0} {g : _} → (S → List ℕ) → Program → Searcher S g → Error → Type 0
RefusesAnswer bytes program w e = refuses_at program (bytes w.haystack) w.request w.request.start w.continues e

-- the search for its next item may be refused by this error
abbrev pub RefusesItem : {S : Type 0} {g : _} → (S → Bool) → (S → List ℕ) → Program → Searcher S g → Error → Type 0
RefusesItem text bytes program w e = refused_next program (text w.haystack) (bytes w.haystack) w.request (standing_of w) e

-- its next search keeps within its limit of returns
abbrev pub AllowsAnswer : {S : Type 0} {g : _} → (S → List ℕ) → Program → Searcher S g → Type 0
AllowsAnswer bytes program w = allows_at program (bytes w.haystack) w.request w.request.start w.continues

-- the searches for its next item keep within their limits
abbrev pub AllowsItem : {S : Type 0} {g : _} → (S → Bool) → (S → List ℕ) → Program → Searcher S g → Type 0
AllowsItem text bytes program w = allowed_next program (text w.haystack) (bytes w.haystack) w.request (standing_of w)

-- the place after another
abbrev pub place_after : {S : Type 0} {g : _} → (S → Bool) → (S → List ℕ) → Searcher S g → ℕ → ℕ
place_after text bytes w p = next_place (text w.haystack) (bytes w.haystack) p

-- where the search after an item starts
abbrev pub start_after : {S : Type 0} {g : _} → (S → Bool) → (S → List ℕ) → Searcher S g → FoundItem → ℕ
start_after text bytes w i = next_start (text w.haystack) (bytes w.haystack) (from_to i.found.start i.found.end)

-- the haystack can be cut at both ends of an item
abbrev pub IsCutOut : {S : Type 0} {g : _} → (S → Bool) → (S → List ℕ) → Searcher S g → FoundItem → Type 0
IsCutOut text bytes w i = IsCut (text w.haystack) (bytes w.haystack) i.found.start i.found.end

-- the items that an iteration over a text has left
abbrev pub left_of : {g : _} → Program → Searcher (Bor (List ℕ)) g → List MatchItem
left_of program w = items_left (scan program true w.haystack.now w.request) (standing_of w)
