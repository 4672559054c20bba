-- What stands for an answer of a member of a pattern set: an item, or a refusal.
use Rattle.std.specs.Prelude.{◌≡◌, ◌≤◌, ◌<◌, ◌+◌, ℕ, false, length, Result, MatchResult}
use Rattle.fancy_tree.specs.declared.error.Error.{Error}
use Rattle.fancy_input.specs.Requests.{effective_start, positions}
use Rattle.fancy_core.specs.declared.captures.Captures.{Captures}
use Rattle.fancy_core.specs.Captures.{spans_in, searched_in, found_by}
use Rattle.fancy_regex.specs.SetMembers.{SetQuery, NoneBetween, IsMemberItem, RefusesMember, any_answer_at}

-- the member with index k found this item in this haystack at p
abbrev pub IsItemOf : {S : Type 0} {g : _} → SetQuery → S → ℕ → ℕ → Captures S g → Type 0
IsItemOf q haystack p k captures = IsMemberItem q p k (found_by captures) (spans_in captures) × (searched_in captures ≡ haystack)

-- the member with index k answers so at p
abbrev pub IsAnswerOf : {S : Type 0} {g : _} → SetQuery → S → ℕ → ℕ → Result (Captures S g) Error → Type 0
IsAnswerOf q haystack p k answer = MatchResult answer (λ c. IsItemOf q haystack p k c) (λ e. RefusesMember q p k e)

-- the member with index k answers so at p, and none before it, from an index on, has an accepted outcome there
pub record IsFirstAnswer {S : Type 0} {g : _} (q : SetQuery) (haystack : S) (p from k : ℕ) (answer : Result (Captures S g) Error) : Type 0 where
  pub reached : from ≤ k
  pub inside : k < length q.members
  pub first : NoneBetween q p from k
  pub answers : IsAnswerOf q haystack p k answer

-- so does it at p, with none before it there, and no member has an accepted outcome at the positions before
pub record IsFirstOfSet {S : Type 0} {g : _} (q : SetQuery) (haystack : S) (p k : ℕ) (answer : Result (Captures S g) Error) : Type 0 where
  pub from : effective_start q.request ≤ p
  pub before : p < effective_start q.request + positions q.request
  pub within : p ≤ q.request.range_end
  pub passed : (j : ℕ) → effective_start q.request ≤ j → j < p → any_answer_at q j ≡ false
  pub here : IsFirstAnswer q haystack p 0 k answer
