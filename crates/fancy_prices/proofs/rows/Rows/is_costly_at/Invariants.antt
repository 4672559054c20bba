use Rattle.std.proofs.Common.{◌≡◌, ◌<◌, ℕ, false, slice_get}
use Rattle.fancy_prices.specs.Around.{costly_in}
use Rattle.fancy_prices.proofs.rows.Rows.is_costly_at.Given as goal

abbrev pub invariant-loop-row : goal.invariant-loop-row
invariant-loop-row l = (k : ℕ) → k < l.row-index → costly_in (slice_get l.self.rows.items k) l.here ≡ false
