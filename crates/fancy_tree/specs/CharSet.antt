-- Tables of a set's members.
use Rattle.std.specs.Prelude.{◌≡◌, ◌↔◌, ℕ, ◌<◌, ◌*◌, ◌/◌, ◌%◌, true, Bool, List, slice_index}
use Rattle.std.specs.Int.{bit_at}

unfoldable pub bit : List ℕ → ℕ → ℕ
bit words i = bit_at (slice_index words (i / 64)) (i % 64)

-- of the numbers that this many words have bits for, those are members whose bits are set
abbrev pub IsTable : List ℕ → ℕ → (ℕ → Bool) → Type 0
IsTable words count p = (c : ℕ) → c < 64 * count → (bit words c ≡ 1) ↔ (p c ≡ true)
