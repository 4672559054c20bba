use Rattle.std.proofs.Common.{◌≡◌, ◌≤◌, Some}
use Rattle.fancy_input.specs.Lines.{byte_before}
use Rattle.fancy_prices.specs.Entries.{ArePassed}
use Rattle.fancy_prices.specs.Around.{row_of}
use Rattle.fancy_prices.proofs.entries.Told.next_near.Given as goal

abbrev pub invariant-loop-place : goal.invariant-loop-place
invariant-loop-place l = record {
  passed : l.from ≤ l.place;
  within : l.place ≤ l.to;
  row : row_of l.self.rows (byte_before l.haystack l.place) ≡ Some l.row;
  none : ArePassed l.self l.haystack l.from l.place;
}
