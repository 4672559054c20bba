use Rattle.std.proofs.Common.{◌≡◌, ◌<◌, ℕ, length, slice_index, bit_and}
use Rattle.fancy_bytes.proofs.byte_set.intersection_of.Given as goal

abbrev pub invariant-loop-i : goal.invariant-loop-i
invariant-loop-i l = record {
  size : length l.words ≡ 4;
  below : (k : ℕ) → k < l.i → slice_index l.words k ≡ bit_and (slice_index l.a k) (slice_index l.b k);
}
