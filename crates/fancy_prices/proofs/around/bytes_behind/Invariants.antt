use Rattle.std.proofs.Common.{◌≡◌, ◌<◌, ℕ, None, true, false}
use Rattle.std.specs.Prelude.{slice_index_or}
use Rattle.fancy_bytes.specs.Sets.{member}
use Rattle.fancy_prices.specs.Rows.{costs_nothing}
use Rattle.fancy_prices.proofs.around.bytes_behind.Given as goal

abbrev pub invariant-loop-byte : goal.invariant-loop-byte
invariant-loop-byte l = (b : ℕ) → b < l.byte → member l.seconds b ≡ false → costs_nothing (slice_index_or l.row b None) ≡ true
