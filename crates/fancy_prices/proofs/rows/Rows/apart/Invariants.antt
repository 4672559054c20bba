use Rattle.std.proofs.Common.{◌<◌, ℕ, slice_index}
use Rattle.std.specs.Prelude.{vec_len}
use Rattle.fancy_prices.specs.Entries.{TellRows}
use Rattle.fancy_prices.proofs.rows.Rows.apart.Given as goal

abbrev pub invariant-loop-kind : goal.invariant-loop-kind
invariant-loop-kind l =
    (some : 0 < vec_len l.rows.0) × (numbered : (b : ℕ) → b < 256 → slice_index l.rows.1.0 b < vec_len l.rows.0)
    × TellRows l.code (record { rows = l.rows.0; numbers = l.rows.1.0; some = some; numbered = numbered })
