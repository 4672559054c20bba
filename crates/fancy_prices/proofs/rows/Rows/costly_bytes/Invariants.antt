use Rattle.std.proofs.Common.{◌≡◌, ◌<◌, ℕ, false, slice_get}
use Rattle.std.specs.Prelude.{vec_len}
use Rattle.fancy_bytes.specs.Sets.{member}
use Rattle.fancy_prices.specs.Around.{costly_in}
use Rattle.fancy_prices.proofs.rows.Rows.costly_bytes.Given as goal

abbrev pub invariant-loop-byte : goal.invariant-loop-byte
invariant-loop-byte l = (b : ℕ) → b < l.byte → member l.bytes b ≡ false → (k : ℕ) → k < vec_len l.self.rows → costly_in (slice_get l.self.rows.items k) b ≡ false
