use Rattle.std.proofs.Common.{◌≡◌, ◌<◌, ℕ, length, slice_index}
use Rattle.fancy_prefilter.specs.Windows.{IsSkip}
use Rattle.fancy_prefilter.proofs.window.skips_of.Given as goal

abbrev pub invariant-loop-byte : goal.invariant-loop-byte
invariant-loop-byte l = record {
  all : length l.skips.items ≡ l.byte;
  each : (b : ℕ) → b < l.byte → IsSkip l.sets b (slice_index l.skips.items b);
}
