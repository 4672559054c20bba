-- What `tokens` answers.
use Rattle.std.specs.Prelude.{◌≡◌, ◌≤◌, ◌<◌, ◌++◌, ◌⊎◌, ℕ, List, length, drop, map}
use Rattle.fancy_regex.specs.declared.Error.{Error}
use Rattle.fancy_regex.specs.declared.RegexSet.{RegexSet}
use Rattle.fancy_regex.specs.SetMembers.{SetQuery}
use Rattle.fancy_regex.specs.TokenLists.{IsUnmatched, IsRefusedByMember}
use Rattle.fancy_regex.specs.Tokens.{TokenItem, tokens_from}
use Rattle.fancy_regex_c.specs.declared.plain.Member.{Member}
use Rattle.fancy_regex_c.specs.declared.plain.Request.{Request}
use Rattle.fancy_regex_c.specs.Answers.{IsAnswerFor}
use Rattle.fancy_regex_c.specs.Asked.{asked_of_set, IsAsSaid, IsPlaceOfSet}

-- the token that crosses
abbrev pub token_of : Member → TokenItem
token_of m = record { pattern = m.pattern; start = m.start; end = m.end }

-- These tokens are given: they stand at the start of the buffer, and what stood after them is kept. They are the first of those from
-- the request's start on, and those from its new start on are left.
pub record GivesTokens (q : SetQuery) (given old new : List Member) (before after : Request) (written : ℕ) : Type 0 where
  pub first : tokens_from q before.start ≡ map token_of given ++ tokens_from q after.start
  pub moved : after ≡ record before { start = after.start }
  pub put : new ≡ given ++ drop (length given) old
  pub counted : written ≡ length given

-- No token is given at p, which is within the range: none is there, or a member is refused.
pub record RefusesTokenAt (q : SetQuery) (p : ℕ) (e : Error) : Type 0 where
  pub inside : p < q.request.range_end
  pub why : IsUnmatched q p e ⊎ IsRefusedByMember q p e

-- `tokens`, after these were given: DONE where the buffer is full; NONE where the range has ended; or a refusal at the request's new start
pub data EndsTokensWith (q : SetQuery) (given old : List Member) (after : Request) (answer : ℕ) : Type 0 where
  is_full : answer ≡ 0 → length given ≡ length old → EndsTokensWith q given old after answer
  is_ended : answer ≡ 1 → q.request.range_end ≤ after.start → EndsTokensWith q given old after answer
  is_refused : IsAnswerFor (RefusesTokenAt q after.start) answer → EndsTokensWith q given old after answer

-- `tokens`, where the bytes are what the request says: the buffer gets the next tokens, where they may be cut as the request asks.
-- For NO_PLACE nothing is written and 0 is told.
pub data TellsTokensIn (q : SetQuery) (place : Type 0) (before after : Request) (old new : List Member) (written answer : ℕ) : Type 0 where
  is_given : place → (given : List Member) → GivesTokens q given old new before after written → EndsTokensWith q given old after answer
      → TellsTokensIn q place before after old new written answer
  is_no_place : answer ≡ 3 → (place → ⊥) → written ≡ 0 → new ≡ old → after ≡ before → TellsTokensIn q place before after old new written answer

-- `tokens`: so is it where the bytes are what the request says. For NOT_TEXT nothing is written and 0 is told.
pub data TellsTokens (set : RegexSet) (bytes : List ℕ) (before after : Request) (old new : List Member) (written answer : ℕ) : Type 0 where
  is_read : IsAsSaid bytes before → TellsTokensIn (asked_of_set set bytes before) (IsPlaceOfSet set bytes before) before after old new written answer
      → TellsTokens set bytes before after old new written answer
  is_not_text : answer ≡ 2 → (IsAsSaid bytes before → ⊥) → written ≡ 0 → new ≡ old → after ≡ before
      → TellsTokens set bytes before after old new written answer
