use Rattle.std.proofs.Common.{◌≡◌, ◌<◌, ℕ, Some, length, slice_index_or}
use Rattle.fancy_regex.specs.Candidates.{HoldAll, HoldOnly}
use Rattle.fancy_regex.proofs.set.candidates.Candidates.new.Given as goal

abbrev pub invariant-loop-byte : goal.invariant-loop-byte
invariant-loop-byte l = record {
  size : length l.by_byte ≡ 256;
  below : (b : ℕ) → b < l.byte → HoldAll l.width l.members (Some b) (slice_index_or l.by_byte b l.at_end);
  only : (b : ℕ) → b < l.byte → HoldOnly l.width l.members (Some b) (slice_index_or l.by_byte b l.at_end);
}
