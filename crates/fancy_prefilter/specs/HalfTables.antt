-- Tables that are read by the halves of a byte, and marks of 32 places of a haystack at once.
use Rattle.std.specs.Prelude.{◌≡◌, ℕ, ◌+◌, ◌/◌, ◌%◌, ◌<◌, true, List, length, slice_index, bit_and}
use Rattle.std.specs.Int.{bit_at}
use Rattle.fancy_bytes.specs.Sets.{ByteFlags, member}

-- what the low half of a byte reads has a bit in common with what its high half reads
abbrev pub LetsThrough : List ℕ → List ℕ → ℕ → Type 0
LetsThrough low high b = 0 < bit_and (slice_index low (b % 16)) (slice_index high (b / 16))

-- so it is of each member of the set
abbrev pub LetMembersThrough : List ℕ → List ℕ → ByteFlags → Type 0
LetMembersThrough low high set = (b : ℕ) → b < 256 → member set b ≡ true → LetsThrough low high b

-- there are 32 lanes, and the lane with the number k holds f k
pub record AreLanes (f : ℕ → ℕ) (lanes : List ℕ) : Type 0 where
  pub all : length lanes ≡ 32
  pub each : (k : ℕ) → k < 32 → slice_index lanes k ≡ f k

-- For each of the 32 places from the one on at which something is so, the marks have a bit, the lowest for the first place.
pub record AreMarks (IsSo : ℕ → Type 0) (place marks : ℕ) : Type 0 where
  pub each : (k : ℕ) → k < 32 → IsSo (place + k) → bit_at marks k ≡ 1
  pub few : marks < 4294967296
