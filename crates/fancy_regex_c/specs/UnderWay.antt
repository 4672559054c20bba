-- Lists under way, as the exports that begin them make them.
use Rattle.std.specs.Prelude.{◌≡◌, ℕ, Bool, true, false, List, MatchBool, string_bytes, vec_items}
use Rattle.fancy_regex_c.specs.declared.handle.Handle.{Handle}
use Rattle.fancy_regex_c.specs.declared.handle.Kept.{Kept}
use Rattle.fancy_regex_c.specs.declared.handle.Kept.TheVariants as Of
use Rattle.fancy_regex_c.specs.declared.under_way.MatchList.{MatchList}
use Rattle.fancy_regex_c.specs.declared.under_way.Owned.{Owned}
use Rattle.fancy_regex_c.specs.declared.under_way.Owned.TheVariants.{Text, Bytes}
use Rattle.fancy_regex_c.specs.declared.under_way.TokenList.{TokenList}

-- the bytes of a haystack of a list's own
abbrev pub owned_bytes : Owned → List ℕ
owned_bytes (Text text) = string_bytes text
owned_bytes (Bytes bytes) = vec_items bytes

-- whether it is text
abbrev pub is_owned_text : Owned → Bool
is_owned_text (Text text) = true
is_owned_text (Bytes bytes) = false

-- P of the list of matches, where that is what is kept, and else Q
abbrev pub ByMatches : Kept → (MatchList → Type 0) → Type 0 → Type 0
ByMatches Of.Nothing P Q = Q
ByMatches (Of.Regex shared) P Q = Q
ByMatches (Of.Set shared) P Q = Q
ByMatches (Of.Matches list) P Q = P list
ByMatches (Of.Tokens list) P Q = Q

-- P of the list of tokens, where that is what is kept, and else Q
abbrev pub ByTokens : Kept → (TokenList → Type 0) → Type 0 → Type 0
ByTokens Of.Nothing P Q = Q
ByTokens (Of.Regex shared) P Q = Q
ByTokens (Of.Set shared) P Q = Q
ByTokens (Of.Matches list) P Q = Q
ByTokens (Of.Tokens list) P Q = P list

-- P of the list that the handle holds; where it holds none, Q
abbrev pub HeldMatches : Handle → (MatchList → Type 0) → Type 0 → Type 0
HeldMatches h P Q = MatchBool h.raw.full (ByMatches h.raw.value P Q) Q

abbrev pub HeldTokens : Handle → (TokenList → Type 0) → Type 0 → Type 0
HeldTokens h P Q = MatchBool h.raw.full (ByTokens h.raw.value P Q) Q

-- `matches_new` and `tokens_new`, of bytes that are what the request says, and may be searched as it asks: the handle holds the list. It
-- keeps what it held for all other answers.
pub data Begins (said place : Type 0) (made same : Type 0) (answer : ℕ) : Type 0 where
  is_begun : answer ≡ 0 → said → place → made → Begins said place made same answer
  is_not_text : answer ≡ 2 → (said → ⊥) → same → Begins said place made same answer
  is_no_place : answer ≡ 3 → said → (place → ⊥) → same → Begins said place made same answer
  is_no_memory : answer ≡ 4 → same → Begins said place made same answer
