use Rattle.std.proofs.Common.{◌≡◌, ◌<◌, ℕ, None, length}
use Rattle.std.specs.Prelude.{slice_index_or}
use Rattle.fancy_prices.specs.Around.{TellsBehind}
use Rattle.fancy_prices.proofs.entries.row_behind.Given as goal

abbrev pub invariant-loop-byte : goal.invariant-loop-byte
invariant-loop-byte l = record {
  size : length l.row ≡ 256;
  below : (b : ℕ) → b < l.byte → TellsBehind l.fn.code b (slice_index_or l.row b None);
}
