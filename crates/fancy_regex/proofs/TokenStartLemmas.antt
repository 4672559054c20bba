-- The tokens from a place do not hang on where the request starts: the members are asked at each place anew.
use Rattle.std.proofs.Common.{◌≡◌, ◌∙◌, ◌⊎◌, ℕ, zero, suc, ◌∷◌, Option, None, Some, refl, ap, inl, inr}
use Rattle.fancy_tree.specs.declared.error.Error.{Error}
use Rattle.fancy_regex.specs.SetMembers.{SetQuery}
use Rattle.fancy_regex.specs.TokenLists.{IsUnmatched, IsRefusedByMember}
use Rattle.fancy_regex.specs.Tokens.{TokenItem, token_at, token_chain, tokens_from}

-- the same, from another start
abbrev pub started_at : SetQuery → ℕ → SetQuery
started_at q s = record q { request = record q.request { start = s } }

module _ (q : SetQuery) (s : ℕ) where
  token_at_start : (p : ℕ) → token_at (started_at q s) p ≡ token_at q p
  unfolding token_at
  token_at_start p = refl

  chain_at_start : (n : ℕ) (o : Option TokenItem) → token_chain n (started_at q s) o ≡ token_chain n q o
  chain_at_start zero None = refl
  chain_at_start (suc n) None = refl
  chain_at_start zero (Some t) = refl
  chain_at_start (suc n) (Some t) = ap (λ ts. t ∷ ts) (ap (token_chain n (started_at q s)) (token_at_start t.end) ∙ chain_at_start n (token_at q t.end))

  pub tokens_at_start : (p : ℕ) → tokens_from (started_at q s) p ≡ tokens_from q p
  unfolding tokens_from
  tokens_at_start p = ap (token_chain q.request.range_end (started_at q s)) (token_at_start p) ∙ chain_at_start q.request.range_end (token_at q p)

  -- nor does why none is given
  pub refused_at_start : (p : ℕ) (e : Error) → IsUnmatched q p e ⊎ IsRefusedByMember q p e → IsUnmatched (started_at q s) p e ⊎ IsRefusedByMember (started_at q s) p e
  refused_at_start p e (inl none) = inl (record { names = none.names; none = token_at_start p ∙ none.none; limits = none.limits })
  refused_at_start p e (inr member) = inr (record { index = member.index; refuses = member.refuses; limits = member.limits })
