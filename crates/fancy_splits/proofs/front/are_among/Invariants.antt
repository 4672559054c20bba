use Rattle.std.proofs.Common.{◌≡◌, ◌<◌, ℕ, true}
use Rattle.fancy_bytes.specs.Sets.{member}
use Rattle.fancy_splits.proofs.front.are_among.Given as goal

abbrev pub invariant-loop-byte : goal.invariant-loop-byte
invariant-loop-byte l = (b : ℕ) → b < l.byte → member l.fn.split.items b ≡ true → member l.fn.items b ≡ true
