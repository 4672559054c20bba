use Rattle.std.proofs.Common.{◌≡◌, ◌<◌, ◌≤◌, ℕ, true}
use Rattle.fancy_bytes.specs.Sets.{member}
use Rattle.fancy_bytes.proofs.items.high_bytes.Given as goal

abbrev pub invariant-loop-byte : goal.invariant-loop-byte
invariant-loop-byte l = (b : ℕ) → 128 ≤ b → b < l.byte → member l.bytes b ≡ true
