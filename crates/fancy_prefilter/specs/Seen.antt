-- Where a match may start, by what stands there.
use Rattle.std.specs.Prelude.{◌≡◌, ℕ, ◌+◌, ◌<◌, ◌≤◌, true, false, List, Option, Some, None, slice_index}
use Rattle.fancy_bytes.specs.Sets.{ByteFlags, member}

-- A match may start at p, by the set of the bytes that each match starts at: one of them stands there, within the range. Without a set it may start anywhere.
abbrev pub MayStart : Option ByteFlags → List ℕ → ℕ → ℕ → Type 0
MayStart None haystack range_end p = Unit {0}
MayStart (Some set) haystack range_end p = (p < range_end) × (member set (slice_index haystack p) ≡ true)

-- no match starts at p, by that set
abbrev pub MayNotStart : Option ByteFlags → List ℕ → ℕ → ℕ → Type 0
MayNotStart None haystack range_end p = ⊥
MayNotStart (Some set) haystack range_end p = p < range_end → member set (slice_index haystack p) ≡ false

-- no match starts from the one place on and before the other
abbrev pub NoneMayStart : Option ByteFlags → List ℕ → ℕ → ℕ → ℕ → Type 0
NoneMayStart starts haystack range_end from to = (p : ℕ) → from ≤ p → p < to → MayNotStart starts haystack range_end p

-- p is the first place, from the one on and up to the other, where a match may start, or past both where none may
pub record IsNextCandidate (starts : Option ByteFlags) (haystack : List ℕ) (range_end from last p : ℕ) : Type 0 where
  pub passed : from ≤ p
  pub within : p ≤ last + 1
  pub stands : p ≤ last → MayStart starts haystack range_end p
  pub none : NoneMayStart starts haystack range_end from p
