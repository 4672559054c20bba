use Rattle.std.proofs.Common.{◌≡◌, ◌+◌, ◌<◌, ◌≤◌, ℕ, false, length}
use Rattle.fancy_bytes.specs.Sets.{member}
use Rattle.fancy_bytes.specs.Rows.{set_at}
use Rattle.fancy_prefilter.proofs.window.skip_of.Given as goal

abbrev pub invariant-loop-passed : goal.invariant-loop-passed
invariant-loop-passed l = (j : ℕ) → j < length l.sets → length l.sets ≤ j + l.passed → member (set_at l.sets j) l.byte ≡ false
