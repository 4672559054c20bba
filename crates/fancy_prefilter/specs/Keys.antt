-- Keys of the bytes that stand first in a window, and numbers of rows of byte sets by their keys.
use Rattle.std.specs.Prelude.{◌≡◌, ℕ, zero, suc, ◌+◌, ◌*◌, ◌%◌, ◌<◌, ◌≤◌, true, List, [], ◌∷◌, Some, length, take, slice_get, slice_index, if◌then◌else◌, nat_lt}
use Rattle.std.specs.Global.{Vec}
use Rattle.fancy_bytes.specs.Sets.{ByteFlags, member}

-- bytes past ASCII count as one
abbrev pub class_of : ℕ → ℕ
class_of byte = if nat_lt byte 128 then byte else 128

-- how many keys there are
abbrev pub keys : ℕ
keys = 8192

-- the key after one more byte of a window
abbrev pub mixed : ℕ → ℕ → ℕ
mixed seed byte = (seed * 53 + class_of byte) % keys

-- the key after the n bytes from a place on, and what was read before
abbrev pub key_from : ℕ → ℕ → List ℕ → ℕ → ℕ
key_from seed zero haystack p = seed
key_from seed (suc n) haystack p = key_from (mixed seed (slice_index haystack p)) n haystack (p + 1)

-- the key of the window at a place
abbrev pub key_at : ℕ → List ℕ → ℕ → ℕ
key_at width haystack p = key_from 0 width haystack p

-- the number stands among these members, from the one place on and before the other
abbrev pub IsAmong : List ℕ → ℕ → ℕ → ℕ → Type 0
IsAmong members from to number = (i : ℕ) × (from ≤ i) × (i < to) × (slice_get members i ≡ Some number)

-- the number is among those of each key that such bytes give, after what was read before
abbrev pub Covers : List ℕ → List ℕ → ℕ → ℕ → List ByteFlags → Type 0
Covers starts members number seed [] = IsAmong members (slice_index starts seed) (slice_index starts (seed + 1)) number
Covers starts members number seed (set ∷ sets) =
    (byte : ℕ) → byte < 256 → member set byte ≡ true → Covers starts members number (mixed seed byte) sets

-- so it is of each row and its first sets
pub record IsCovered (starts members : List ℕ) (number width : ℕ) (row : List ByteFlags) : Type 0 where
  pub enough : width ≤ length row
  pub covered : Covers starts members number 0 (take width row)

abbrev pub AreCovered : List ℕ → List ℕ → List (Vec ByteFlags) → ℕ → Type 0
AreCovered starts members rows width =
    (number : ℕ) (row : Vec ByteFlags) → slice_get rows number ≡ Some row → IsCovered starts members number width row.items

-- these members rise, from the one place on and before the other
abbrev pub RiseBetween : List ℕ → ℕ → ℕ → Type 0
RiseBetween members from to = (i j : ℕ) → from ≤ i → i < j → j < to → j < length members → slice_index members i < slice_index members j

-- the members of each key rise
abbrev pub AreRising : List ℕ → List ℕ → Type 0
AreRising starts members = (key : ℕ) → key < keys → RiseBetween members (slice_index starts key) (slice_index starts (key + 1))

-- each member is below the count
abbrev pub AreBelow : List ℕ → ℕ → Type 0
AreBelow members count = (i : ℕ) → i < length members → slice_index members i < count
