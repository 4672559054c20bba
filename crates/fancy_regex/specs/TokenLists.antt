-- What stands for a token, and for the iterator over the tokens of an input.
use Rattle.std.specs.Prelude.{◌≡◌, ◌≤◌, ◌<◌, ◌+◌, ◌-◌, ◌⊎◌, ℕ, zero, Bool, true, false, List, [], ◌∷◌, length, Option, None, Result, if◌then◌else◌}
use Rattle.fancy_tree.specs.declared.error.Error.{Error}
use Rattle.fancy_tree.specs.declared.error.Error.TheVariants.{RuntimeError}
use Rattle.fancy_tree.specs.declared.error.RuntimeError.TheVariants.{Unmatched}
use Rattle.fancy_input.specs.declared.input.Request.{Request}
use Rattle.fancy_input.specs.declared.span.Span.{Span}
use Rattle.fancy_input.specs.Inputs.{haystack_in, request_in}
use Rattle.fancy_input.specs.Requests.{effective_start}
use Rattle.fancy_core.specs.declared.captures.Captures.{Captures}
use Rattle.fancy_core.specs.Captures.{spans_in, searched_in, found_by}
use Rattle.fancy_core.specs.NextAnswers.{ByAnswer}
use Rattle.fancy_regex.specs.declared.set.RegexSet.{RegexSet}
use Rattle.fancy_regex.specs.declared.tokens.Tokens.{Tokens}
use Rattle.fancy_regex.specs.declared.tokens.token.Token.{Token}
use Rattle.fancy_regex.specs.SetMatches.{pattern_index, captures_of, match_span}
use Rattle.fancy_regex.specs.SetMembers.{SetQuery, IsMemberItem, RefusesMember}
use Rattle.fancy_regex.specs.Sets.{members_of, asked_of_set}
use Rattle.fancy_regex.specs.Tokens.{TokenItem, placed_at, token_at, tokens_from, KeepLimits}

-- the index of the pattern that the token is of
abbrev pub token_pattern : {S : Type 0} {g : _} → Token S g → ℕ
token_pattern t = pattern_index t.found

abbrev pub token_captures : {S : Type 0} {g : _} → Token S g → Captures S g
token_captures t = captures_of t.found

-- where the token starts and ends
abbrev pub token_span : {S : Type 0} {g : _} → Token S g → Option Span
token_span t = match_span t.found

abbrev pub token_set : {S : Type 0} {g : _} → Tokens S g → RegexSet
token_set t = t.set.now

abbrev pub token_haystack : {S : Type 0} {g : _} → Tokens S g → S
token_haystack t = haystack_in t.input

abbrev pub token_request : {S : Type 0} {g : _} → Tokens S g → Request
token_request t = request_in t.input

-- where the next token starts; where the list has ended, where it ended
abbrev pub token_place : {S : Type 0} {g : _} → Tokens S g → ℕ
token_place t = t.place

abbrev pub has_ended_tokens : {S : Type 0} {g : _} → Tokens S g → Bool
has_ended_tokens t = t.ended

-- what its members are asked, at each place anew
abbrev pub token_query : {S : Type 0} {g : _} → (S → List ℕ) → Tokens S g → SetQuery
token_query bytes t = asked_of_set (token_set t) bytes t.input

-- the tokens that are left, refusals aside
abbrev pub tokens_left : {S : Type 0} {g : _} → (S → List ℕ) → Tokens S g → List TokenItem
tokens_left bytes t = if has_ended_tokens t then [] else tokens_from (token_query bytes t) (token_place t)

-- how many items can still come: each token has a byte at least, and a refusal is the last
abbrev pub token_turns : {S : Type 0} {g : _} → Tokens S g → ℕ
token_turns t = if has_ended_tokens t then zero else (token_request t).range_end + 1 - token_place t

-- the tokens of an input, from its effective start on
pub record AreTokensOf {S : Type 0} {g : _} (bytes : S → List ℕ) (set : RegexSet) (haystack : S) (request : Request) (t : Tokens S g) : Type 0 where
  pub of_set : token_set t ≡ set
  pub of_haystack : token_haystack t ≡ haystack
  pub of_request : token_request t ≡ request
  pub begins : token_place t ≡ effective_start request
  pub goes_on : has_ended_tokens t ≡ false

-- This token, between the places before and after the call: the first of those that were left. It was found in the haystack, all
-- members were asked, and each kept within its limit.
pub record GivesToken {S : Type 0} {g h : _} (bytes : S → List ℕ) (token : Token S h) (s t : Tokens S g) : Type 0 where
  pub moves : token_place s < token_place t
  pub first : tokens_left bytes s ≡ record { pattern = token_pattern token; start = token_place s; end = token_place t } ∷ tokens_left bytes t
  pub groups : IsMemberItem (placed_at (token_query bytes s) (token_place s)) (token_place s) (token_pattern token) (found_by (token_captures token)) (spans_in (token_captures token))
  pub within : searched_in (token_captures token) ≡ token_haystack s
  pub limits : KeepLimits (token_query bytes s) (token_place s) (length (members_of (token_set s)))
  pub goes_on : has_ended_tokens t ≡ false

-- no member gives a token at the place, though all were asked, and the range goes on
pub record IsUnmatched (q : SetQuery) (p : ℕ) (e : Error) : Type 0 where
  pub names : e ≡ RuntimeError (Unmatched p)
  pub none : token_at q p ≡ None
  pub limits : KeepLimits q p (length q.members)

-- the first member that is refused at the place is refused by this error, whatever others found there
pub record IsRefusedByMember (q : SetQuery) (p : ℕ) (e : Error) : Type 0 where
  pub index : ℕ
  pub refuses : RefusesMember (placed_at q p) p index e
  pub limits : KeepLimits q p index

-- A refusal, at a place before the range's end: no token is there, or a member is refused. No other token comes, and the place stays.
pub record RefusesToken {S : Type 0} {g : _} (bytes : S → List ℕ) (e : Error) (s t : Tokens S g) : Type 0 where
  pub unended : has_ended_tokens s ≡ false
  pub inside : token_place s < (token_request s).range_end
  pub why : IsUnmatched (token_query bytes s) (token_place s) e ⊎ IsRefusedByMember (token_query bytes s) (token_place s) e
  pub stays : token_place t ≡ token_place s
  pub ends : has_ended_tokens t ≡ true

-- The end: the list had ended, or the place is the range's end or past it. The place stays.
pub record EndsTokens {S : Type 0} {g : _} (s t : Tokens S g) : Type 0 where
  pub why : (has_ended_tokens s ≡ true) ⊎ ((token_request s).range_end ≤ token_place s)
  pub stays : token_place t ≡ token_place s
  pub ends : has_ended_tokens t ≡ true

-- One call of `next`, from s to t.
pub record IsNextToken {S : Type 0} {g h : _} (bytes : S → List ℕ) (s : Tokens S g) (r : Option (Result (Token S h) Error)) (t : Tokens S g) : Type 0 where
  pub answers : ByAnswer r (EndsTokens s t) (λ x. GivesToken bytes x s t) (λ e. RefusesToken bytes e s t)
  pub same_set : token_set t ≡ token_set s
  pub same_haystack : token_haystack t ≡ token_haystack s
  pub same_request : token_request t ≡ token_request s
