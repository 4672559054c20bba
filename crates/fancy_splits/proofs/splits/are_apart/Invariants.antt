use Rattle.std.proofs.Common.{◌≡◌, ◌<◌, ℕ, true, false}
use Rattle.fancy_bytes.specs.Sets.{member}
use Rattle.fancy_splits.proofs.splits.are_apart.Given as goal

abbrev pub invariant-loop-byte : goal.invariant-loop-byte
invariant-loop-byte l = (b : ℕ) → b < l.byte → member l.items b ≡ true → member l.leaves b ≡ false
