use Rattle.std.proofs.Common.{◌≡◌, ◌-◌, ◌<◌, ◌≤◌, ◌&&◌, ℕ, drop, length}
use Rattle.fancy_bytes.specs.Items.{is_in_all}
use Rattle.fancy_bytes.specs.Sets.{member}
use Rattle.fancy_bytes.proofs.required.bytes_of_all.Given as goal

abbrev pub invariant-loop-i : goal.invariant-loop-i
invariant-loop-i l = record {
  within : l.i ≤ length l.edges;
  left : (b : ℕ) → b < 256 → (member l.set b && is_in_all l.meaning (drop l.i l.edges) b) ≡ is_in_all l.meaning l.edges b;
}

abbrev pub decreases-loop-i : goal.decreases-loop-i
decreases-loop-i l = length l.edges - l.i
