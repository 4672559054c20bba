use Rattle.std.proofs.Common.{◌≡◌, ◌<◌, ◌≤◌, ◌+◌, ℕ, true, length, slice_index}
use Rattle.fancy_bytes.specs.Sets.{member}
use Rattle.fancy_bytes.specs.Rows.{set_at, Wider}
use Rattle.fancy_bytes.proofs.items.add_encoding.Given as goal

abbrev pub invariant-loop-i : goal.invariant-loop-i
invariant-loop-i l = record {
  wider : Wider l.fn.sets.items l.sets.items;
  size : length l.sets.items ≡ length l.fn.sets.items;
  has : (i j : ℕ) → i < l.i → slice_index l.bytes i < 256 → l.from + i ≤ j → (l.exact ≡ true → j ≡ l.from + i) → j < length l.sets.items
      → member (set_at l.sets.items j) (slice_index l.bytes i) ≡ true;
}
