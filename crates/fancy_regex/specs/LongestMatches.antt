-- The longest match of the members of a set at a place, of those with an index below one.
use Rattle.std.specs.Prelude.{◌≡◌, ◌≤◌, ◌<◌, ℕ, Option, Some, None}
use Rattle.fancy_code.specs.declared.found.Found.{Found}
use Rattle.fancy_input.specs.Spans.{from_to}
use Rattle.fancy_core.specs.Captures.{spans_in, searched_in, found_by}
use Rattle.fancy_regex.specs.declared.tokens.token.Token.{Token}
use Rattle.fancy_regex.specs.SetMembers.{SetQuery, IsMemberItem}
use Rattle.fancy_regex.specs.Tokens.{TokenItem, placed_at, candidate_at, token_at}
use Rattle.fancy_regex.specs.TokenLists.{token_pattern, token_captures, token_span}

-- this match was found, starts at p and ends past `end`
pub record EndsPast (p end : ℕ) (found : Option Found) (f : Found) : Type 0 where
  pub is : found ≡ Some f
  pub starts : f.start ≡ p
  pub past : end < f.end

-- no match was found that starts at p and ends past `end`
abbrev pub EndsBy : ℕ → ℕ → Option Found → Type 0
EndsBy p end found = (f : Found) → found ≡ Some f → f.start ≡ p → f.end ≤ end

-- this is a token at p, up to `end`: a match of its member in the haystack that is not empty
pub record IsTokenTo {S : Type 0} {g : _} (q : SetQuery) (haystack : S) (p end : ℕ) (t : Token S g) : Type 0 where
  pub moves : p < end
  pub span : token_span t ≡ Some (from_to p end)
  pub offered : candidate_at q p (token_pattern t) ≡ Some (record { pattern = token_pattern t; start = p; end = end })
  pub item : IsMemberItem (placed_at q p) p (token_pattern t) (found_by (token_captures t)) (spans_in (token_captures t))
  pub within : searched_in (token_captures t) ≡ haystack

-- of the candidates at p of the members below n, this is the longest, and the first of those that are as long
pub record IsLongest {S : Type 0} {g : _} (q : SetQuery) (haystack : S) (p n end : ℕ) (t : Token S g) : Type 0 where
  pub inside : token_pattern t < n
  pub token : IsTokenTo q haystack p end t
  pub longest : (k : ℕ) (u : TokenItem) → k < n → candidate_at q p k ≡ Some u → u.end ≤ end
  pub first : (k : ℕ) (u : TokenItem) → k < token_pattern t → candidate_at q p k ≡ Some u → u.end < end

-- the same, or there is no candidate among them
abbrev pub IsLongestIfAny : {S : Type 0} {g : _} → SetQuery → S → ℕ → ℕ → ℕ → Option (Token S g) → Type 0
IsLongestIfAny q haystack p n end None = (end ≡ p) × ((k : ℕ) → k < n → candidate_at q p k ≡ None)
IsLongestIfAny q haystack p n end (Some t) = IsLongest q haystack p n end t

-- this is the token at p
pub record IsTokenGiven {S : Type 0} {g : _} (q : SetQuery) (haystack : S) (p : ℕ) (t : Token S g) : Type 0 where
  pub end : ℕ
  pub moves : p < end
  pub span : token_span t ≡ Some (from_to p end)
  pub is : token_at q p ≡ Some (record { pattern = token_pattern t; start = p; end = end })
  pub item : IsMemberItem (placed_at q p) p (token_pattern t) (found_by (token_captures t)) (spans_in (token_captures t))
  pub within : searched_in (token_captures t) ≡ haystack
