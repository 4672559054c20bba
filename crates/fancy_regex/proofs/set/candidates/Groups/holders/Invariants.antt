use Rattle.std.proofs.Common.{◌≡◌, ◌<◌, ℕ, length, slice_index_or}
use Rattle.fancy_regex.specs.declared.set.candidates.Groups.{Groups}
use Rattle.fancy_regex.specs.Candidates.{HoldAhead}
use Rattle.fancy_regex.proofs.set.candidates.Groups.holders.Given as goal

abbrev pub invariant-loop-byte : goal.invariant-loop-byte
invariant-loop-byte l = record {
  size : length l.by_byte ≡ 256;
  below : (b : ℕ) (none : Groups) → b < l.byte → HoldAhead l.width l.members l.place b (slice_index_or l.by_byte b none);
}
