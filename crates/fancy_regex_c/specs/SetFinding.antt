-- What `set_find` answers.
use Rattle.std.specs.Prelude.{◌≡◌, ℕ, List, length, Option, None, Some}
use Rattle.std.specs.List.{AllZip}
use Rattle.fancy_regex.specs.declared.Error.{Error}
use Rattle.fancy_regex.specs.declared.Regex.{Regex}
use Rattle.fancy_regex.specs.declared.RegexSet.{RegexSet}
use Rattle.fancy_regex.specs.declared.Span.{Span as Found}
use Rattle.fancy_regex.specs.Groups.{span_at}
use Rattle.fancy_regex.specs.SetMembers.{SetQuery, members_at, set_position, IsMemberItem, RefusesMember, RefusesSet}
use Rattle.fancy_regex.specs.Spans.{from_to}
use Rattle.fancy_regex_c.specs.declared.plain.Member.{Member}
use Rattle.fancy_regex_c.specs.declared.plain.Request.{Request}
use Rattle.fancy_regex_c.specs.Answers.{IsAnswerFor}
use Rattle.fancy_regex_c.specs.Asked.{asked_of_set, IsAsSaid, IsPlaceOfSet}
use Rattle.fancy_regex_c.specs.Buffers.{done_if, filled}

-- this is what the member with index k matches at p
pub record IsMatchOf (q : SetQuery) (p k : ℕ) (m : Member) : Type 0 where
  pub pattern : m.pattern ≡ k
  pub regex : Regex
  pub spans : List (Option Found)
  pub item : IsMemberItem q p k regex spans
  pub span : span_at spans 0 ≡ Some (from_to m.start m.end)

-- These are the matches at p of the members with these indices. They are put into the buffer, and counted.
pub record PutsMatches (q : SetQuery) (p : ℕ) (indices : List ℕ) (old new : List Member) (wanted : ℕ) : Type 0 where
  pub found : List Member
  pub each : AllZip (IsMatchOf q p) indices found
  pub counted : wanted ≡ length found
  pub put : new ≡ filled found old

-- The search is refused by this error: before a position with a match is found, or by a member there.
pub data RefusesFind (q : SetQuery) (e : Error) : Type 0 where
  at_no_position : RefusesSet q e → RefusesFind q e
  at_position : (p k : ℕ) → set_position q ≡ Some p → RefusesMember q p k e → RefusesFind q e

-- `set_find`: the buffer gets the matches of the members that have one at the set's position, in the order of their indices; NONE
-- where no position has one. For NONE, NOT_TEXT and NO_PLACE nothing is written and 0 is told.
pub data TellsMembers (set : RegexSet) (bytes : List ℕ) (r : Request) (old new : List Member) (wanted answer : ℕ) : Type 0 where
  is_found : IsAsSaid bytes r → IsPlaceOfSet set bytes r → (p : ℕ) → set_position (asked_of_set set bytes r) ≡ Some p
      → PutsMatches (asked_of_set set bytes r) p (members_at (asked_of_set set bytes r) p) old new wanted → answer ≡ done_if wanted (length old)
      → TellsMembers set bytes r old new wanted answer
  is_none : answer ≡ 1 → IsAsSaid bytes r → IsPlaceOfSet set bytes r → set_position (asked_of_set set bytes r) ≡ None → wanted ≡ 0 → new ≡ old
      → TellsMembers set bytes r old new wanted answer
  is_not_text : answer ≡ 2 → (IsAsSaid bytes r → ⊥) → wanted ≡ 0 → new ≡ old → TellsMembers set bytes r old new wanted answer
  is_no_place : answer ≡ 3 → IsAsSaid bytes r → (IsPlaceOfSet set bytes r → ⊥) → wanted ≡ 0 → new ≡ old → TellsMembers set bytes r old new wanted answer
  is_refused : IsAsSaid bytes r → IsPlaceOfSet set bytes r → IsAnswerFor (RefusesFind (asked_of_set set bytes r)) answer
      → TellsMembers set bytes r old new wanted answer
