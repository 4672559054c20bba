-- What the members of a pattern set have at the positions of an input. A member is known by its index.
use Rattle.std.specs.Prelude.{◌≡◌, ◌≤◌, ◌<◌, ◌+◌, ◌-◌, ℕ, Bool, true, false, List, [], ◌∷◌, length, filter, find, Option, Some, slice_get, take, is_some}
use Rattle.std.specs.List.{range_with_len, list_any}
use Rattle.std.specs.Option.{option_and_then}
use Rattle.fancy_tree.specs.declared.error.Error.{Error}
use Rattle.fancy_input.specs.declared.input.Request.{Request}
use Rattle.fancy_input.specs.declared.span.Span.{Span}
use Rattle.fancy_input.specs.Requests.{effective_start, positions}
use Rattle.fancy_meaning.specs.Search.{Query, answer_at}
use Rattle.fancy_core.specs.declared.regex.Regex.{Regex}
use Rattle.fancy_core.specs.Limited.{RefusesAt, AllowsAt}
use Rattle.fancy_core.specs.Regexes.{query}
use Rattle.fancy_core.specs.RegexStarts.{regex_may_start}
use Rattle.fancy_core.specs.Searches.{groups_of_attempt}

-- what a set is asked: its members, the bytes of the haystack, and where they are searched
pub record SetQuery : Type 0 where
  pub members : List Regex
  pub haystack : List ℕ
  pub request : Request

-- what a set of one pattern is asked
abbrev pub asked_alone : Regex → List ℕ → Request → SetQuery
asked_alone r haystack request = record { members = r ∷ []; haystack = haystack; request = request }

-- what a member is asked
abbrev pub asked : SetQuery → Regex → Query
asked q r = query r q.haystack q.request

-- whether there is a member with this index, and it has an accepted outcome at p
abbrev pub has_answer_at : SetQuery → ℕ → ℕ → Bool
has_answer_at q p k = is_some (option_and_then (λ r. answer_at (asked q r) p) (slice_get q.members k))

-- the indices of the members from i on, ascending
abbrev pub indices_from : SetQuery → ℕ → List ℕ
indices_from q i = range_with_len i (length q.members - i)

-- the indices from i on, ascending, of the members that have an accepted outcome at p
abbrev pub members_at_from : SetQuery → ℕ → ℕ → List ℕ
members_at_from q p i = filter (has_answer_at q p) (indices_from q i)

-- the indices of all that have one
abbrev pub members_at : SetQuery → ℕ → List ℕ
members_at q p = members_at_from q p 0

-- some member has one at p
abbrev pub any_answer_at : SetQuery → ℕ → Bool
any_answer_at q p = list_any (has_answer_at q p) (indices_from q 0)

-- the least position of the input at which some member has one
abbrev pub set_position : SetQuery → Option ℕ
set_position q = find (any_answer_at q) (range_with_len (effective_start q.request) (positions q.request))

-- no member from the index i up to the index k has one at p
abbrev pub NoneBetween : SetQuery → ℕ → ℕ → ℕ → Type 0
NoneBetween q p i k = (j : ℕ) → i ≤ j → j < k → has_answer_at q p j ≡ false

-- The member with index k is this regex, and these are the spans of its groups at p; it keeps within its limit there.
pub record IsMemberItem (q : SetQuery) (p k : ℕ) (member : Regex) (spans : List (Option Span)) : Type 0 where
  pub is : ∥ slice_get q.members k ≡ Some member ∥₁
  pub groups : Some spans ≡ groups_of_attempt (asked q member) p
  pub allowed : AllowsAt member (asked q member) p

-- a match of the member may start with the byte at p
abbrev pub MayStartAt : SetQuery → ℕ → Regex → Type 0
MayStartAt q p r = regex_may_start r (slice_get (take q.request.range_end q.haystack) p) ≡ true

-- The member with index k may be refused by this error at p, where a match of it may start.
pub record RefusesMember (q : SetQuery) (p k : ℕ) (e : Error) : Type 0 where
  pub member : Regex
  pub is : slice_get q.members k ≡ Some member
  pub starts : MayStartAt q p member
  pub refuses : RefusesAt member (asked q member) p e

-- The set may be refused by this error: by a member at a position where none with a lower index has an accepted outcome, while none at all has one at the positions before.
pub record RefusesSet (q : SetQuery) (e : Error) : Type 0 where
  pub position : ℕ
  pub from : effective_start q.request ≤ position
  pub before : position < effective_start q.request + positions q.request
  pub passed : (p : ℕ) → effective_start q.request ≤ p → p < position → any_answer_at q p ≡ false
  pub index : ℕ
  pub first : NoneBetween q position 0 index
  pub refuses : RefusesMember q position index e
