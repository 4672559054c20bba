-- Where the next byte of a set stands.
use Rattle.std.specs.Prelude.{◌≡◌, ℕ, ◌<◌, ◌≤◌, true, false, List, slice_index}
use Rattle.fancy_bytes.specs.Sets.{ByteFlags, member}

-- no byte of the set stands from the one place on and before the other
abbrev pub NoneSeenBefore : ByteFlags → List ℕ → ℕ → ℕ → Type 0
NoneSeenBefore set haystack from to = (k : ℕ) → from ≤ k → k < to → member set (slice_index haystack k) ≡ false

-- p is the first place, from the one on and before the other, where a byte of the set stands
pub record IsNextSeen (set : ByteFlags) (haystack : List ℕ) (from to p : ℕ) : Type 0 where
  pub passed : from ≤ p
  pub within : p < to
  pub found : member set (slice_index haystack p) ≡ true
  pub none : NoneSeenBefore set haystack from p
