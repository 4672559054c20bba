use Rattle.std.proofs.Common.{◌≡◌, ◌<◌, ◌≤◌, ℕ, true, length}
use Rattle.fancy_bytes.specs.Sets.{member}
use Rattle.fancy_bytes.specs.Rows.{set_at, Wider}
use Rattle.fancy_bytes.proofs.rows.add_bytes.Given as goal

abbrev pub invariant-loop-j : goal.invariant-loop-j
invariant-loop-j l = record {
  wider : Wider l.fn.sets.items l.sets.items;
  size : length l.sets.items ≡ length l.fn.sets.items;
  has : (i b : ℕ) → l.from ≤ i → i < l.j → b < 256 → member l.bytes b ≡ true → member (set_at l.sets.items i) b ≡ true;
}
