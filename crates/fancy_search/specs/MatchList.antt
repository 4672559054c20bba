-- The matches of an iteration, one after another.
use Rattle.std.specs.Prelude.{ℕ, zero, suc, ◌<◌, ◌≤◌, ◌≡◌, Bool, true, false, not, ◌&&◌, nat_eq, max, List, [], ◌∷◌, Option, None, Some, option_map, if◌then◌else◌}
use Rattle.fancy_input.specs.declared.span.Span.{Span}
use Rattle.fancy_input.specs.Spans.{from_to}
use Rattle.fancy_meaning.specs.Search.{Answer}

-- What is searched, again and again: what a search from a start finds, with `\G` on or off; the next place after a place; and the ends of the range.
pub record Scan : Type 0 where
  pub find : ℕ → Bool → Option Answer
  pub advance : ℕ → ℕ
  pub floor : ℕ
  pub last : ℕ

-- what was found, the effective start that it was searched from, and whether `\G` was on
pub record MatchItem : Type 0 where
  pub found : Answer
  pub from : ℕ
  pub continues : Bool

abbrev pub start_of : MatchItem → ℕ
start_of i = i.found.state.kept

abbrev pub stop_of : MatchItem → ℕ
stop_of i = i.found.state.place

abbrev pub span_of_item : MatchItem → Span
span_of_item i = from_to (start_of i) (stop_of i)

abbrev pub is_empty_item : MatchItem → Bool
is_empty_item i = nat_eq (start_of i) (stop_of i)

abbrev pub item_of : ℕ → Bool → Answer → MatchItem
item_of from continues found = record { found = found; from = from; continues = continues }

-- the answer from a start
unfoldable pub answer : Scan → ℕ → Bool → Option MatchItem
answer k s continues = option_map (item_of (max s k.floor) continues) (k.find s continues)

-- The answer from e, where the match before ended; if that is the empty match at e, the answer from the next place with `\G` off stands instead.
abbrev pub unless_empty_at : Scan → ℕ → Option MatchItem → Option MatchItem
unless_empty_at k e None = None
unless_empty_at k e (Some i) = if is_empty_item i && nat_eq (stop_of i) e then answer k (k.advance e) false else Some i

-- where the search starts whose answer that is: at e, and where the empty match at e is passed over, at the next place
abbrev pub start_unless_empty_at : Scan → ℕ → Option MatchItem → ℕ
start_unless_empty_at k e None = e
start_unless_empty_at k e (Some i) = if is_empty_item i && nat_eq (stop_of i) e then k.advance e else e

-- What stands after an item. After an empty one `\G` is off where that was searched from its own end.
unfoldable pub next_after : Scan → MatchItem → Option MatchItem
next_after k i =
    if is_empty_item i
    then answer k (k.advance (stop_of i)) (not (nat_eq i.from (stop_of i)))
    else unless_empty_at k (stop_of i) (answer k (stop_of i) true)

-- where the search starts whose answer stands after an item
unfoldable pub search_start_after : Scan → MatchItem → ℕ
search_start_after k i =
    if is_empty_item i
    then k.advance (stop_of i)
    else start_unless_empty_at k (stop_of i) (answer k (stop_of i) true)

-- the item and those after it, n at most
abbrev pub chain : ℕ → Scan → Option MatchItem → List MatchItem
chain n k None = []
chain zero k (Some i) = []
chain (suc n) k (Some i) = i ∷ chain n k (next_after k i)

-- The item and all those after it. There are at most as many as there are places up to the last.
unfoldable pub items_from : Scan → Option MatchItem → List MatchItem
items_from k o = chain (suc k.last) k o

-- the list of matches from a start
abbrev pub matches : Scan → ℕ → List MatchItem
matches k s = items_from k (answer k s true)

-- where the search starts that finds none after the item and those after it, n at most; without an item it is that from s
abbrev pub chain_end : ℕ → Scan → ℕ → Option MatchItem → ℕ
chain_end n k s None = s
chain_end zero k s (Some i) = s
chain_end (suc n) k s (Some i) = chain_end n k (search_start_after k i) (next_after k i)

-- where the search starts that finds none after the item and all those after it
unfoldable pub end_from : Scan → ℕ → Option MatchItem → ℕ
end_from k s o = chain_end (suc k.last) k s o

-- where the search starts that finds none, at the end of the list of matches from a start
abbrev pub last_start : Scan → ℕ → ℕ
last_start k s = end_from k s (answer k s true)

-- an item lies at or after the start that it was searched from, and within the range
pub record Lies (k : Scan) (i : MatchItem) : Type 0 where
  pub after : i.from ≤ start_of i
  pub ordered : start_of i ≤ stop_of i
  pub inside : stop_of i ≤ k.last

-- what a search owes: a match within the range that begins at or after the effective start; and the next place is later
pub record Sound (k : Scan) : Type 0 where
  pub found : (s : ℕ) (c : Bool) (f : Answer) → k.find s c ≡ Some f → Lies k (item_of (max s k.floor) c f)
  pub advances : (i : ℕ) → i < k.advance i

-- each start is at or after the end before it, and the ends strictly increase
abbrev pub RiseAfter : MatchItem → List MatchItem → Type 0
RiseAfter i [] = Unit
RiseAfter i (j ∷ js) = (stop_of i ≤ start_of j) × (stop_of i < stop_of j) × RiseAfter j js

abbrev pub InOrder : List MatchItem → Type 0
InOrder [] = Unit
InOrder (i ∷ is) = RiseAfter i is

-- the search from s, with `\G` on or off, finds none
pub record FindsNone (k : Scan) (s : ℕ) : Type 0 where
  pub continues : Bool
  pub none : k.find s continues ≡ None
