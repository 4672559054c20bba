-- What the answer of a search is, in terms of the outcomes at the positions.
use Rattle.std.specs.Prelude.{◌≡◌, ℕ, ◌+◌, ◌≤◌, ◌<◌, All, List, ◌∷◌, ◌++◌}
use Rattle.std.specs.List.{Contains}
use Rattle.fancy_input.specs.Requests.{effective_start, positions}
use Rattle.fancy_meaning.specs.Context.{State}
use Rattle.fancy_meaning.specs.Search.{Query, Answer, outcomes_at, IsAccepted}

-- an attempt at p can end in an accepted outcome
pub record HasAccepted (q : Query) (p : ℕ) : Type 0 where
  pub state : State
  pub reached : Contains (outcomes_at q p) state
  pub stands : IsAccepted q p state

-- p is one of the positions that the request has tried
pub record IsPosition (q : Query) (p : ℕ) : Type 0 where
  pub from : effective_start q.request ≤ p
  pub before : p < effective_start q.request + positions q.request

-- no position has an accepted outcome
abbrev pub HasNone : Query → Type 0
HasNone q = (p : ℕ) → IsPosition q p → ¬ HasAccepted q p

-- s stands among the outcomes at p, is accepted, and none that is preferred to it is
pub record IsFirstAccepted (q : Query) (p : ℕ) (s : State) : Type 0 where
  pub preferred : List State
  pub others : List State
  pub splits : outcomes_at q p ≡ preferred ++ s ∷ others
  pub refused : All (λ t. ¬ IsAccepted q p t) preferred
  pub stands : IsAccepted q p s

-- at the least position that has an accepted outcome, the first one there
pub record IsAnswer (q : Query) (f : Answer) : Type 0 where
  pub tried : IsPosition q f.position
  pub first : IsFirstAccepted q f.position f.state
  pub least : (p : ℕ) → IsPosition q p → p < f.position → ¬ HasAccepted q p

-- s stands among the outcomes at p and is accepted; of the accepted ones those that are preferred to it end before it, and the others at its end at the latest
pub record IsLongestAccepted (q : Query) (p : ℕ) (s : State) : Type 0 where
  pub preferred : List State
  pub others : List State
  pub splits : outcomes_at q p ≡ preferred ++ s ∷ others
  pub shorter : All (λ t. IsAccepted q p t → t.place < s.place) preferred
  pub no_longer : All (λ t. IsAccepted q p t → t.place ≤ s.place) others
  pub stands : IsAccepted q p s

-- at the least position that has an accepted outcome, the first one of those that end last there
pub record IsLongestAnswer (q : Query) (f : Answer) : Type 0 where
  pub tried : IsPosition q f.position
  pub longest : IsLongestAccepted q f.position f.state
  pub least : (p : ℕ) → IsPosition q p → p < f.position → ¬ HasAccepted q p
