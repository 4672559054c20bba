use Rattle.std.proofs.Common.{◌≡◌, ◌≤◌, ◌<◌, ℕ, length, slice_index}
use Rattle.std.specs.Prelude.{if◌then◌else◌}
use Rattle.fancy_bytes.specs.Sets.{member}
use Rattle.fancy_prices.proofs.rows.numbered.Given as goal

abbrev pub invariant-loop-byte : goal.invariant-loop-byte
invariant-loop-byte l = record {
  size : length l.result ≡ 256;
  below : (b : ℕ) → b < l.byte → slice_index l.result b ≡ (if member l.bytes b then l.number else (slice_index l.fn.numbers b));
  above : (b : ℕ) → l.byte ≤ b → slice_index l.result b ≡ slice_index l.fn.numbers b;
}
