use Rattle.std.proofs.Common.{◌≡◌, ◌<◌, ℕ, false, length}
use Rattle.std.specs.Prelude.{slice_get, slice_index_or}
use Rattle.fancy_prices.specs.Around.{costly_in}
use Rattle.fancy_prices.proofs.rows.Rows.costly_rows.Given as goal

abbrev pub invariant-loop-number : goal.invariant-loop-number
invariant-loop-number l = record {
  size : length l.costly ≡ 256;
  below : (k : ℕ) → k < l.number → slice_index_or l.costly k false ≡ false
      → (here : ℕ) → here < 256 → costly_in (slice_get l.self.rows.items k) here ≡ false;
}
