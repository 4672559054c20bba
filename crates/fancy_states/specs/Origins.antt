-- Of which ways of its row those come that a step leads to.
use Rattle.std.specs.Prelude.{◌≡◌, ◌-◌, ◌<◌, ◌&&◌, ℕ, Bool, true, List, Option, None, Some, IfSome, nat_eq, nat_lt}
use Rattle.std.specs.List.{list_all}
use Rattle.fancy_states.specs.declared.origin.Origin.{Origin}
use Rattle.fancy_states.specs.declared.origin.Origin.TheVariants.{Earlier, Last, Mixed}

-- among so many ways of a row, those have these numbers that the ways after a step come from, and that of the match
abbrev pub ComeFrom : Origin → ℕ → List ℕ → Option ℕ → Type 0
ComeFrom Earlier ways came matched = (list_all (λ f. nat_lt f (ways - 1)) came ≡ true) × IfSome matched (λ f. f < ways - 1)
ComeFrom Last ways came matched =
    (0 < ways) × (list_all (λ f. nat_eq f (ways - 1)) came ≡ true) × IfSome matched (λ f. f ≡ ways - 1)
ComeFrom Mixed ways came matched = Unit {0}

-- the match passes a test, if there is one
abbrev pub match_passes : (ℕ → Bool) → Option ℕ → Bool
match_passes test None = true
match_passes test (Some f) = test f

-- the same as a test, so that there is one proof of it at most
abbrev pub come_from : Origin → ℕ → List ℕ → Option ℕ → Bool
come_from Earlier ways came matched =
    list_all (λ f. nat_lt f (ways - 1)) came && match_passes (λ f. nat_lt f (ways - 1)) matched
come_from Last ways came matched =
    nat_lt 0 ways && (list_all (λ f. nat_eq f (ways - 1)) came && match_passes (λ f. nat_eq f (ways - 1)) matched)
come_from Mixed ways came matched = true
