-- The tokens that a pattern set cuts a text into: at each place the longest match that starts there, and then the next one where it ends.
use Rattle.std.specs.Prelude.{◌≡◌, ◌≤◌, ◌<◌, ◌==◌, ◌&&◌, ℕ, zero, suc, List, [], ◌∷◌, ◌++◌, Option, Some, None, filter_map, nat_lt, slice_get, slice_range, true, if◌then◌else◌}
use Rattle.std.specs.Option.{option_and_then}
use Rattle.fancy_meaning.specs.Search.{Answer, attempt}
use Rattle.fancy_core.specs.declared.regex.Regex.{Regex}
use Rattle.fancy_core.specs.Limited.{AllowsAt}
use Rattle.fancy_regex.specs.SetMembers.{SetQuery, asked, indices_from, MayStartAt}

-- a token: the index of its pattern, and the byte offsets where it starts and ends
pub record TokenItem : Type 0 where
  pub pattern : ℕ
  pub start : ℕ
  pub end : ℕ

-- what the members are asked at a place: the input anchored there. Its range and what it suppresses stay.
abbrev pub placed_at : SetQuery → ℕ → SetQuery
placed_at q p = record q { request = record q.request { start = p; anchored = true } }

-- what the member with this index finds at p, if anything
abbrev pub found_by_member : SetQuery → ℕ → ℕ → Option Answer
found_by_member q p k = option_and_then (λ r. attempt (asked (placed_at q p) r) p) (slice_get q.members k)

-- A match that was found at p may be the token there if it starts there, also where its pattern holds `\K`, and is not empty.
abbrev pub token_if_starts : ℕ → ℕ → Answer → Option TokenItem
token_if_starts p k a =
    if (a.state.kept == p) && nat_lt p a.state.place
    then Some (record { pattern = k; start = p; end = a.state.place })
    else None

-- what the member with this index offers as the token at p
abbrev pub candidate_at : SetQuery → ℕ → ℕ → Option TokenItem
candidate_at q p k = option_and_then (token_if_starts p k) (found_by_member q p k)

-- what all members offer, in the order of their indices
abbrev pub candidates_at : SetQuery → ℕ → List TokenItem
candidates_at q p = filter_map (candidate_at q p) (indices_from q 0)

-- the earlier, unless the later one ends further on
abbrev pub further_token : TokenItem → Option TokenItem → Option TokenItem
further_token t None = Some t
further_token t (Some u) = if nat_lt t.end u.end then Some u else Some t

-- the first among those with the greatest end
abbrev pub longest_token : List TokenItem → Option TokenItem
longest_token [] = None
longest_token (t ∷ ts) = further_token t (longest_token ts)

-- The token at p: the candidate with the greatest end, of the lowest index among equals. At the range's end and past it there is none.
unfoldable pub token_at : SetQuery → ℕ → Option TokenItem
token_at q p = if nat_lt p q.request.range_end then longest_token (candidates_at q p) else None

-- a token and those after it, n at most
abbrev pub token_chain : ℕ → SetQuery → Option TokenItem → List TokenItem
token_chain n q None = []
token_chain zero q (Some t) = []
token_chain (suc n) q (Some t) = t ∷ token_chain n q (token_at q t.end)

-- The tokens from p on. Each has a byte at least, so there are at most as many as the range has bytes.
unfoldable pub tokens_from : SetQuery → ℕ → List TokenItem
tokens_from q p = token_chain q.request.range_end q (token_at q p)

-- where these tokens end, one after another from p on: at p where there is none
abbrev pub end_of_tokens : ℕ → List TokenItem → ℕ
end_of_tokens p [] = p
end_of_tokens p (t ∷ ts) = end_of_tokens t.end ts

-- t is the token at p: a candidate of its member, of which none ends further on, and none of a lower index ends there too
pub record IsTokenAt (q : SetQuery) (p : ℕ) (t : TokenItem) : Type 0 where
  pub offered : candidate_at q p t.pattern ≡ Some t
  pub longest : (k : ℕ) (u : TokenItem) → candidate_at q p k ≡ Some u → u.end ≤ t.end
  pub first : (k : ℕ) (u : TokenItem) → candidate_at q p k ≡ Some u → k < t.pattern → u.end < t.end

-- each of the tokens starts where the one before ends, the first at p, and is the token there
abbrev pub AreTokensFrom : SetQuery → ℕ → List TokenItem → Type 0
AreTokensFrom q p [] = Unit {0}
AreTokensFrom q p (t ∷ ts) = (t.start ≡ p) × (p < t.end) × IsTokenAt q p t × AreTokensFrom q t.end ts

-- the texts of the tokens, joined
abbrev pub texts_of_tokens : List ℕ → List TokenItem → List ℕ
texts_of_tokens haystack [] = []
texts_of_tokens haystack (t ∷ ts) = slice_range haystack t.start t.end ++ texts_of_tokens haystack ts

-- Each token is the longest candidate at its place, and the next one starts where it ends; their texts, joined, are the text up to where they end, and there is no token there.
pub record CutsIntoTokens (q : SetQuery) (p : ℕ) : Type 0 where
  pub each : AreTokensFrom q p (tokens_from q p)
  pub goes_on : p ≤ end_of_tokens p (tokens_from q p)
  pub joined : texts_of_tokens q.haystack (tokens_from q p) ≡ slice_range q.haystack p (end_of_tokens p (tokens_from q p))
  pub ends : token_at q (end_of_tokens p (tokens_from q p)) ≡ None

-- the member with this index, if there is one, keeps within its limit of returns at p
abbrev pub KeepsLimitAt : SetQuery → ℕ → ℕ → Type 0
KeepsLimitAt q p k = (r : Regex) → slice_get q.members k ≡ Some r → AllowsAt r (asked (placed_at q p) r) p

-- Each member with an index below n that may start with the byte at p keeps within its limit of returns there.
abbrev pub KeepLimits : SetQuery → ℕ → ℕ → Type 0
KeepLimits q p n = (k : ℕ) (r : Regex) → k < n → slice_get q.members k ≡ Some r → MayStartAt q p r → AllowsAt r (asked (placed_at q p) r) p
