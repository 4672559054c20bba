-- What stands for a match of a pattern of a set, and for the iterator over such matches at one position.
use Rattle.std.specs.Prelude.{◌≡◌, ◌≤◌, ◌+◌, ℕ, List, [], length, Option, Some, Result}
use Rattle.fancy_tree.specs.declared.error.Error.{Error}
use Rattle.fancy_input.specs.declared.input.Request.{Request}
use Rattle.fancy_input.specs.declared.span.Span.{Span}
use Rattle.fancy_input.specs.Inputs.{haystack_in, request_in}
use Rattle.fancy_search.specs.Groups.{span_at}
use Rattle.fancy_core.specs.declared.captures.Captures.{Captures}
use Rattle.fancy_core.specs.Captures.{spans_in, searched_in, found_by}
use Rattle.fancy_core.specs.NextAnswers.{ByAnswer}
use Rattle.fancy_regex.specs.declared.set.RegexSet.{RegexSet}
use Rattle.fancy_regex.specs.declared.set.matched.RegexSetMatch.{RegexSetMatch}
use Rattle.fancy_regex.specs.declared.set.matches.RegexSetMatchesAt.{RegexSetMatchesAt}
use Rattle.fancy_regex.specs.SetMembers.{SetQuery, members_at_from, members_at, set_position, NoneBetween, IsMemberItem, RefusesMember}
use Rattle.fancy_regex.specs.Sets.{members_of, asked_of_set}

-- the index of the pattern that matched
abbrev pub pattern_index : {S : Type 0} {g : _} → RegexSetMatch S g → ℕ
pattern_index m = m.pattern

abbrev pub captures_of : {S : Type 0} {g : _} → RegexSetMatch S g → Captures S g
captures_of m = m.captures

-- the span of the whole match
abbrev pub match_span : {S : Type 0} {g : _} → RegexSetMatch S g → Option Span
match_span m = span_at (spans_in (captures_of m)) 0

abbrev pub set_of : {S : Type 0} {g : _} → RegexSetMatchesAt S g → RegexSet
set_of m = m.set.now

abbrev pub haystack_of_set : {S : Type 0} {g : _} → RegexSetMatchesAt S g → S
haystack_of_set m = haystack_in m.input

abbrev pub request_of_set : {S : Type 0} {g : _} → RegexSetMatchesAt S g → Request
request_of_set m = request_in m.input

-- the position that its members are tried at
abbrev pub position_of : {S : Type 0} {g : _} → RegexSetMatchesAt S g → ℕ
position_of m = m.position

-- the index of the member that is asked next
abbrev pub next_member : {S : Type 0} {g : _} → RegexSetMatchesAt S g → ℕ
next_member m = m.next

-- what its members are asked
abbrev pub question_of : {S : Type 0} {g : _} → (S → List ℕ) → RegexSetMatchesAt S g → SetQuery
question_of bytes m = asked_of_set (set_of m) bytes m.input

-- the indices of the members that have an item still to come, refusals aside
abbrev pub members_to_come : {S : Type 0} {g : _} → (S → List ℕ) → RegexSetMatchesAt S g → List ℕ
members_to_come bytes m = members_at_from (question_of bytes m) (position_of m) (next_member m)

-- `find_input` answers this iterator: it stands at the set's position, and has the items of all members there left
pub record IsAnswerOfSet {S : Type 0} {g : _} (bytes : S → List ℕ) (set : RegexSet) (haystack : S) (request : Request) (m : RegexSetMatchesAt S g) : Type 0 where
  pub of_set : set_of m ≡ set
  pub of_haystack : haystack_of_set m ≡ haystack
  pub of_request : request_of_set m ≡ request
  pub stands : set_position (question_of bytes m) ≡ Some (position_of m)
  pub items : members_to_come bytes m ≡ members_at (question_of bytes m) (position_of m)

-- The end: no member is left, and none will be asked any more.
pub record EndsMembers {S : Type 0} {g : _} (bytes : S → List ℕ) (s t : RegexSetMatchesAt S g) : Type 0 where
  pub none : members_to_come bytes s ≡ []
  pub ended : length (members_of (set_of t)) ≤ next_member t

-- A member's item: that of the least index, from the one on that is asked next, that has an accepted outcome at the position.
pub record GivesMember {S : Type 0} {g h : _} (bytes : S → List ℕ) (found : RegexSetMatch S h) (s t : RegexSetMatchesAt S g) : Type 0 where
  pub reached : next_member s ≤ pattern_index found
  pub first : NoneBetween (question_of bytes s) (position_of s) (next_member s) (pattern_index found)
  pub item : IsMemberItem (question_of bytes s) (position_of s) (pattern_index found) (found_by (captures_of found)) (spans_in (captures_of found))
  pub within : searched_in (captures_of found) ≡ haystack_of_set s
  pub goes_on : next_member t ≡ pattern_index found + 1

-- A member's refusal: before it, from the one on that is asked next, no member has an accepted outcome at the position.
pub record GivesRefusal {S : Type 0} {g : _} (bytes : S → List ℕ) (e : Error) (s t : RegexSetMatchesAt S g) : Type 0 where
  pub index : ℕ
  pub reached : next_member s ≤ index
  pub first : NoneBetween (question_of bytes s) (position_of s) (next_member s) index
  pub refuses : RefusesMember (question_of bytes s) (position_of s) index e
  pub goes_on : next_member t ≡ index + 1

-- One call of `next`, from s to t.
pub record IsNextOfSet {S : Type 0} {g h : _} (bytes : S → List ℕ) (s : RegexSetMatchesAt S g) (r : Option (Result (RegexSetMatch S h) Error)) (t : RegexSetMatchesAt S g) : Type 0 where
  pub answers : ByAnswer r (EndsMembers bytes s t) (λ x. GivesMember bytes x s t) (λ e. GivesRefusal bytes e s t)
  pub same_set : set_of t ≡ set_of s
  pub same_haystack : haystack_of_set t ≡ haystack_of_set s
  pub same_request : request_of_set t ≡ request_of_set s
  pub same_position : position_of t ≡ position_of s
