-- What a search of an iteration found, with the groups that it left in its cache.
use Rattle.std.specs.Prelude.{◌≤◌, ℕ, Bool, List, [], Option, None, Some, Result}
use Rattle.fancy_tree.specs.declared.error.Error.{Error}
use Rattle.fancy_code.specs.declared.found.Found.{Found}
use Rattle.fancy_input.specs.declared.span.Span.{Span}
use Rattle.fancy_search.specs.declared.program.Program.{Program}
use Rattle.fancy_search.specs.declared.cache.Cache.{Cache}
use Rattle.fancy_search.specs.declared.searcher.FoundItem.{FoundItem}
use Rattle.fancy_search.specs.declared.searcher.Searcher.{Searcher}
use Rattle.fancy_search.specs.Cached.{found_at, found_with, groups_or}
use Rattle.fancy_search.specs.Groups.{AreCut, spans_of}
use Rattle.fancy_search.specs.MatchList.{MatchItem}
use Rattle.fancy_search.specs.Remaining.{GivesFirst}
use Rattle.fancy_search.specs.Searchers.{IsCutOut, item_next, items_of, RefusesItem}

-- the groups of an item
abbrev pub item_groups : Option MatchItem → List (Option Span)
item_groups None = []
item_groups (Some i) = i.found.state.captures

-- What was found, with the groups that the search left in its cache. Where they were not asked, they are those of this item.
abbrev pub item_in : Cache → Option MatchItem → FoundItem → MatchItem
item_in cache item l = record { found = found_with l.found (groups_or cache (item_groups item)); from = l.from; continues = l.continues }

-- the haystack can be cut at the groups of what was found, which the search left in this cache
pub record HasGroups (text : Bool) (haystack : List ℕ) (found : Found) (cache : Cache) : Type 0 where
  pub cut : (n : ℕ) → AreCut text haystack (spans_of n (found_at found cache))

-- and at the ends of the groups of an item, which the search left in its cache
abbrev pub HasGroupsOf : {S : Type 0} {g : _} → (S → Bool) → (S → List ℕ) → Searcher S g → FoundItem → Cache → Type 0
HasGroupsOf text bytes w i cache = HasGroups (text w.haystack) (bytes w.haystack) i.found cache

-- The haystack can be cut at both ends of an item and at those of its groups, and it starts at the start of its search or later.
pub record IsGiven {S : Type 0} {g : _} (text : S → Bool) (bytes : S → List ℕ) (w : Searcher S g) (i : FoundItem) (cache : Cache) : Type 0 where
  pub placed : IsCutOut text bytes w i
  pub after : w.request.start ≤ i.found.start
  pub groups : HasGroupsOf text bytes w i cache

-- One step: the first of the items that are left, whose groups the search left in its cache; or a refusal, after which none is left.
abbrev pub GivesItem : {S : Type 0} {g : _} → (S → Bool) → (S → List ℕ) → Program → Cache → Searcher S g → Option (Result FoundItem Error) → Searcher S g → Type 0
GivesItem text bytes program cache before r after =
    GivesFirst (λ w e. RefusesItem text bytes program w e) (item_in cache (item_next text bytes program before)) (λ w. items_of text bytes program w) before r after
