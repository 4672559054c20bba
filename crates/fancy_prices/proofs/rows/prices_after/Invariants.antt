use Rattle.std.proofs.Common.{◌≡◌, Some, length}
use Rattle.fancy_prices.specs.Rows.{TellsRow}
use Rattle.fancy_prices.proofs.rows.prices_after.Given as goal

abbrev pub invariant-loop-byte : goal.invariant-loop-byte
invariant-loop-byte l = record {
  size : length l.row ≡ 256;
  tells : TellsRow l.fn.code (Some l.before) l.row;
}
