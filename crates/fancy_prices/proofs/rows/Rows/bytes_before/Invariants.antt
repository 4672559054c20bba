use Rattle.std.proofs.Common.{◌≡◌, ◌<◌, ℕ, false, Some}
use Rattle.fancy_bytes.specs.Sets.{member}
use Rattle.fancy_prices.specs.Around.{costly_in, row_of}
use Rattle.fancy_prices.proofs.rows.Rows.bytes_before.Given as goal

abbrev pub invariant-loop-byte : goal.invariant-loop-byte
invariant-loop-byte l = (b : ℕ) → b < l.byte → member l.bytes b ≡ false → (here : ℕ) → here < 256 → costly_in (row_of l.self (Some b)) here ≡ false
