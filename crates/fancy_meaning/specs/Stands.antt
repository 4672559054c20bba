-- Which bytes stand in a haystack, at one place or at any, and which stand where an outcome began.
use Rattle.std.specs.Prelude.{◌≡◌, ℕ, ◌<◌, ◌≤◌, Bool, true, ◌⊎◌, List, Some, slice_get}
use Rattle.fancy_meaning.specs.Context.{State}

-- a byte of this kind stands at p
pub record SeesByte (haystack : List ℕ) (kind : ℕ → Bool) (p : ℕ) : Type 0 where
  pub byte : ℕ
  pub stands : slice_get haystack p ≡ Some byte
  pub passes : kind byte ≡ true

-- a byte of this kind stands at p, before the end
abbrev pub SeesBefore : List ℕ → ℕ → (ℕ → Bool) → ℕ → Type 0
SeesBefore haystack end kind p = (p < end) × SeesByte haystack kind p

-- the byte stands somewhere
pub record Stands (haystack : List ℕ) (b : ℕ) : Type 0 where
  pub place : ℕ
  pub there : slice_get haystack place ≡ Some b

-- no byte of this kind stands before the end, from the one place on and before the other
abbrev pub NoneSeen : List ℕ → ℕ → (ℕ → Bool) → ℕ → ℕ → Type 0
NoneSeen haystack end kind from to = (k : ℕ) → from ≤ k → k < to → ¬ SeesBefore haystack end kind k

-- The outcome t is where the walk began at s, if it may be, or a byte that it can begin with stands there.
abbrev pub BeginsBy : Type 0 → (ℕ → Type 0) → State → State → Type 0
BeginsBy Still Seen s t = (Still × (t.place ≡ s.place)) ⊎ Seen s.place
