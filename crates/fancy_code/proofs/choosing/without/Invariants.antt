use Rattle.std.proofs.Common.{◌≡◌, ◌<◌, ◌≤◌, ◌&&◌, ℕ, not, false}
use Rattle.fancy_bytes.specs.Sets.{member}
use Rattle.fancy_code.proofs.choosing.without.Given as goal

-- the bytes below the next one are told apart, and no other is in the set
abbrev pub invariant-loop-byte : goal.invariant-loop-byte
invariant-loop-byte l = record {
  told : (b : ℕ) → b < l.byte → member l.left b ≡ (member l.bytes b && not (member l.other b));
  none : (b : ℕ) → l.byte ≤ b → b < 256 → member l.left b ≡ false;
}
