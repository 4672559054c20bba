use Rattle.std.proofs.Common.{◌≡◌, ◌<◌, ℕ, length}
use Rattle.fancy_bytes.specs.Sets.{member}
use Rattle.fancy_splits.proofs.splits.flags_of.Given as goal

abbrev pub invariant-loop-byte : goal.invariant-loop-byte
invariant-loop-byte l = record {
  size : length l.flags ≡ 256;
  below : (b : ℕ) → b < l.byte → member l.flags b ≡ member l.set b;
}
