-- What stands for a text on its way to having its matches replaced.
use Rattle.std.specs.Borrow.{Bor}
use Rattle.std.specs.Prelude.{◌≡◌, ◌++◌, ◌∷◌, None, true, false, List, Option, ℕ, length, slice_range, string_bytes}
use Rattle.fancy_tree.specs.declared.error.Error.{Error}
use Rattle.fancy_core.specs.declared.regex.Regex.{Regex}
use Rattle.fancy_core.specs.declared.rewriting.Rewriting.{Rewriting}
use Rattle.fancy_search.specs.declared.searcher.FoundItem.{FoundItem}
use Rattle.fancy_core.specs.GroupTexts.{Seen}
use Rattle.fancy_core.specs.Regexes.{program_in}
use Rattle.fancy_search.specs.Remaining.{scan, allows_at, AllowsUpTo}
use Rattle.fancy_search.specs.FoundItems.{item_in}
use Rattle.fancy_core.specs.ItemLimits.{up_to, is_reached}
use Rattle.fancy_search.specs.MatchList.{MatchItem}
use Rattle.fancy_core.specs.Replacing.{seen_of, IsRefusedFrom}
use Rattle.fancy_search.specs.Searchers.{item_next, left_of, standing_of}

abbrev pub rewriting_regex : Rewriting → Regex
rewriting_regex w = w.regex.now

abbrev pub rewriting_text : Rewriting → List ℕ
rewriting_text w = w.searcher.haystack.now

-- the matches that are still to be replaced
abbrev pub todo_of : Rewriting → List MatchItem
todo_of w = up_to w.left (left_of (program_in w.regex.now) w.searcher)

-- what a replacer sees of a match that was found, whose groups the search left in its cache
abbrev pub seen_at : Rewriting → FoundItem → Seen
seen_at w i = seen_of (rewriting_regex w) (rewriting_text w) (item_in w.cache None i)

-- what is written, and the text from the end of the last match up to a byte offset
abbrev pub written_to : ℕ → Rewriting → List ℕ
written_to end w = string_bytes w.out ++ slice_range (rewriting_text w) w.last end

-- what is written, and the rest of the text
abbrev pub all_written : Rewriting → List ℕ
all_written w = written_to (length (rewriting_text w)) w

-- the text up to a byte offset was written
abbrev pub WritesTo : ℕ → Rewriting → Rewriting → Type 0
WritesTo end s t = string_bytes t.out ≡ written_to end s

-- the match that is found next
abbrev pub next_of : Rewriting → Option MatchItem
next_of w = item_next (λ _. true) (λ (h : Bor (List ℕ)). h.now) (program_in w.regex.now) w.searcher

-- this is the first of the matches that are to be replaced, and the others are left; where groups are not asked, with those that it has
abbrev pub TakesFirst : Rewriting → FoundItem → Rewriting → Type 0
TakesFirst s i t = todo_of s ≡ item_in t.cache (next_of s) i ∷ todo_of t

-- the search left the groups of this match
abbrev pub HoldsFirst : Rewriting → FoundItem → Rewriting → Type 0
HoldsFirst s i t = item_in t.cache (next_of s) i ≡ item_in t.cache None i

-- the search for the next match may be refused by this error; once the limit is reached there is no such search
abbrev pub RefusesSearch : Rewriting → Error → Type 0
RefusesSearch w e = (is_reached w.left ≡ false) × IsRefusedFrom (rewriting_regex w) (rewriting_text w) w.last (todo_of w) e

-- the searches for the matches that are still to be replaced keep within their limits
abbrev pub AllowsTodo : Rewriting → Type 0
AllowsTodo w =
    AllowsUpTo (allows_at (program_in w.regex.now) (rewriting_text w) w.searcher.request) (scan (program_in w.regex.now) true (rewriting_text w) w.searcher.request)
    w.left (standing_of w.searcher) (left_of (program_in w.regex.now) w.searcher)

-- nothing changed but what was written
pub record Stays (s t : Rewriting) : Type 0 where
  pub regex : rewriting_regex t ≡ rewriting_regex s
  pub text : rewriting_text t ≡ rewriting_text s
  pub todo : todo_of t ≡ todo_of s
  pub allowed : AllowsTodo t → AllowsTodo s
  pub left : t.left ≡ s.left
  pub last : t.last ≡ s.last
  pub found : t.found ≡ s.found
  pub asks : t.searcher.groups ≡ s.searcher.groups
