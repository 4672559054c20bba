-- Where no window of a haystack has a byte of each set of a row, and how far one may be moved on.
use Rattle.std.specs.Prelude.{◌≡◌, ℕ, ◌+◌, ◌<◌, ◌≤◌, false, List, length, slice_index}
use Rattle.fancy_bytes.specs.Rows.{set_at, StandsFrom}
use Rattle.fancy_bytes.specs.Sets.{ByteFlags, member}

-- in no window that begins from the one place on and before the other does a byte of each set stand
abbrev pub NoneStandsIn : List ByteFlags → List ℕ → ℕ → ℕ → ℕ → Type 0
NoneStandsIn sets haystack end from to = (k : ℕ) → from ≤ k → k < to → ¬ StandsFrom sets haystack end 0 k

-- The last n sets do not have the byte: a window in which it stands last may be moved on by n places.
pub record IsSkip (sets : List ByteFlags) (byte n : ℕ) : Type 0 where
  pub within : n ≤ length sets
  pub lacks : (j : ℕ) → j < length sets → length sets ≤ j + n → member (set_at sets j) byte ≡ false

-- one for each byte
pub record AreSkips (sets : List ByteFlags) (skips : List ℕ) : Type 0 where
  pub all : length skips ≡ 256
  pub each : (b : ℕ) → b < 256 → IsSkip sets b (slice_index skips b)
