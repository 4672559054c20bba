-- What is read from a place on, by a relation between a place, what stands there, and the place after it.
use Rattle.std.specs.Prelude.{◌≡◌}

-- from p there is this reading, up to q, and no other
abbrev pub IsTheReading : {T P : Type 0} → (P → T → P → Type 0) → P → T → P → Type 0
IsTheReading R p t q = R p t q × ((u : _) (r : _) → R p u r → (u ≡ t) × (r ≡ q))

abbrev pub HasNoReading : {T P : Type 0} → (P → T → P → Type 0) → P → Type 0
HasNoReading R p = (u : _) (r : _) → R p u r → ⊥

-- what was read, where it is looked at as it is
abbrev pub itself : {T : Type 0} → T → T
itself x = x
