-- Rows of sets of bytes, one for each place of a window that begins somewhere in a haystack, and the bytes of an item.
use Rattle.std.specs.Prelude.{◌≡◌, ℕ, ◌+◌, ◌<◌, ◌≤◌, Bool, true, List, [], length, slice_index, slice_index_or}
use Rattle.fancy_tree.specs.declared.tree.Meaning.{Meaning}
use Rattle.fancy_bytes.specs.Items.{encoding, is_item}
use Rattle.fancy_bytes.specs.Sets.{ByteFlags, member}

-- the set with this number; past the row it has no member
abbrev pub set_at : List ByteFlags → ℕ → ByteFlags
set_at sets j = slice_index_or sets j []

-- From the set with the number `from` on, a byte of each stands at its place of the window that begins at p, before the end.
abbrev pub StandsFrom : List ByteFlags → List ℕ → ℕ → ℕ → ℕ → Type 0
StandsFrom sets haystack end from p =
    (j : ℕ) → from ≤ j → j < length sets → (p + j < end) × (member (set_at sets j) (slice_index haystack (p + j)) ≡ true)

-- The row has no more sets, and each of them has what it had.
pub record Wider (old new : List ByteFlags) : Type 0 where
  pub shorter : length new ≤ length old
  pub has : (j b : ℕ) → j < length new → b < 256 → member (set_at old j) b ≡ true → member (set_at new j) b ≡ true

-- Each set from a number on has these bytes; where it is told so, that one alone.
abbrev pub HasFrom : List ByteFlags → ℕ → Bool → ByteFlags → Type 0
HasFrom sets from exact bytes =
    (j b : ℕ) → from ≤ j → (exact ≡ true → j ≡ from) → j < length sets → b < 256 → member bytes b ≡ true → member (set_at sets j) b ≡ true

-- An item's bytes stand in the sets at their places, the first in the set with the number `from`; where it is not told that it stands there, each in all further sets too.
abbrev pub HasEncoding : List ByteFlags → ℕ → Bool → List ℕ → Type 0
HasEncoding sets from exact bytes =
    (i j : ℕ) → i < length bytes → slice_index bytes i < 256 → from + i ≤ j → (exact ≡ true → j ≡ from + i) → j < length sets
    → member (set_at sets j) (slice_index bytes i) ≡ true

-- So do those of all items that pass a test and have so many bytes, at least and at most.
abbrev pub HasItems : List ByteFlags → ℕ → Bool → Meaning → (ℕ → Bool) → ℕ → ℕ → Type 0
HasItems sets from exact m test least most =
    (c : ℕ) → test c ≡ true → is_item m c ≡ true → least ≤ length (encoding m c) → length (encoding m c) ≤ most → HasEncoding sets from exact (encoding m c)

-- no item passes a test that has so many bytes, at least and at most
abbrev pub HasNone : Meaning → (ℕ → Bool) → ℕ → ℕ → Type 0
HasNone m test least most = (c : ℕ) → test c ≡ true → is_item m c ≡ true → least ≤ length (encoding m c) → length (encoding m c) ≤ most → ⊥
