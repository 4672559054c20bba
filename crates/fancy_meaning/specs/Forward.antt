-- Places only grow, up to the limit.
use Rattle.std.specs.Prelude.{ℕ, ◌≤◌, List, [], ◌∷◌}
use Rattle.fancy_meaning.specs.Context.{State}
use Rattle.fancy_meaning.specs.Events.{Event, mark, return, outcome, Walk}

-- P holds of each outcome
abbrev pub EachOutcome : (State → Type 0) → List Event → Type 0
EachOutcome P [] = Unit {0}
EachOutcome P (mark ∷ es) = EachOutcome P es
EachOutcome P (return ∷ es) = EachOutcome P es
EachOutcome P (outcome s ∷ es) = P s × EachOutcome P es

pub record IsBetween (low high : ℕ) (s : State) : Type 0 where
  pub from : low ≤ s.place
  pub to : s.place ≤ high

-- from a state within the limit, a walk leads on and stays within it
abbrev pub LeadsOn : ℕ → Walk → Type 0
LeadsOn limit walk = (s : State) → s.place ≤ limit → EachOutcome (IsBetween s.place limit) (walk s)
