use Rattle.std.proofs.Common.{◌≡◌, ◌<◌, ◌≤◌, ◌+◌, ℕ, true, length}
use Rattle.fancy_tree.specs.Members.{edges_of}
use Rattle.fancy_tree.specs.Sets.{has}
use Rattle.fancy_bytes.specs.Sets.{member}
use Rattle.fancy_bytes.specs.Rows.{set_at, Wider}
use Rattle.fancy_bytes.proofs.items.add_all.Given as goal

abbrev pub invariant-loop-i : goal.invariant-loop-i
invariant-loop-i l = record {
  wider : Wider l.fn.sets.items l.sets.items;
  size : length l.sets.items ≡ length l.fn.sets.items;
  low : (j b : ℕ) → l.from ≤ j → (l.exact ≡ true → j ≡ l.from) → j < length l.sets.items → b < 128 → has (edges_of l.set.set) b ≡ true → member (set_at l.sets.items j) b ≡ true;
  high : (i j b : ℕ) → i < l.i → l.from + i ≤ j → (l.exact ≡ true → j ≡ l.from + i) → j < length l.sets.items → 128 ≤ b → b < 256 → member (set_at l.sets.items j) b ≡ true;
}
