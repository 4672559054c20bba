use Rattle.std.proofs.Common.{◌≡◌, ◌<◌, ℕ, None, false, not, length}
use Rattle.std.specs.Prelude.{slice_index_or}
use Rattle.fancy_prices.specs.Rows.{costs_nothing}
use Rattle.fancy_prices.proofs.rows.costly_of.Given as goal

abbrev pub invariant-loop-byte : goal.invariant-loop-byte
invariant-loop-byte l = record {
  size : length l.costly ≡ 256;
  below : (b : ℕ) → b < l.byte → slice_index_or l.costly b false ≡ not (costs_nothing (slice_index_or l.prices b None));
}
