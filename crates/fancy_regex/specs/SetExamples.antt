-- A small set and small lists of tokens that are known from elsewhere.
use Rattle.std.specs.Prelude.{◌≡◌, ℕ, List, [], ◌∷◌, Some, None, codes}
use Rattle.fancy_tree.specs.Pattern.{Pattern, followed}
use Rattle.fancy_input.specs.Requests.{whole}
use Rattle.fancy_meaning.specs.Examples.{example_query, a, b, a_or_ab}
use Rattle.fancy_core.specs.declared.regex.Regex.{Regex}
use Rattle.fancy_core.specs.Regexes.{query}
use Rattle.fancy_regex.specs.SetMembers.{SetQuery, members_at, set_position}
use Rattle.fancy_regex.specs.Tokens.{TokenItem, token_at, tokens_from}

-- the regex searches for this pattern, which has no group, under the default options
abbrev pub SearchesFor : Pattern → Regex → Type 0
SearchesFor p r = (query r [] (whole [])).sought ≡ (example_query p 1 []).sought

-- what a set of two is asked in a whole text
abbrev pub asked_both : Regex → Regex → List ℕ → SetQuery
asked_both r s haystack = record { members = r ∷ s ∷ []; haystack = haystack; request = whole haystack }

abbrev pub token : ℕ → ℕ → ℕ → TokenItem
token pattern start end = record { pattern = pattern; start = start; end = end }

-- of a set of `ab` and `a|ab`
pub record WorkedSet (r s : Regex) : Type 0 where
  -- on `xab` the first position at which one of them matches, and who matches there
  pub position : set_position (asked_both r s (codes "xab")) ≡ Some 1
  pub both : members_at (asked_both r s (codes "xab")) 1 ≡ 0 ∷ 1 ∷ []
  -- on `aab` the second pattern alone gives a token at 0; at 1 it offers `a`, and the first one the longer `ab`
  pub tokens : tokens_from (asked_both r s (codes "aab")) 0 ≡ token 1 0 1 ∷ token 0 1 3 ∷ []
  -- on `xab` there is none at 0
  pub no_token : token_at (asked_both r s (codes "xab")) 0 ≡ None

-- of a set of `a` and `a|ab`: each offers `a`, and the first one gives the token
pub record WorkedTie (r s : Regex) : Type 0 where
  pub token : token_at (asked_both r s (codes "ab")) 0 ≡ Some (token 0 0 1)

pub record WorkedSets : Type 0 where
  pub apart : (r s : Regex) → SearchesFor (followed a b) r → SearchesFor a_or_ab s → WorkedSet r s
  pub tied : (r s : Regex) → SearchesFor a r → SearchesFor a_or_ab s → WorkedTie r s
