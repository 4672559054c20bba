use Rattle.std.proofs.Common.{◌≡◌, ◌-◌, ◌*◌, ◌<◌, ◌≤◌, Some}
use Rattle.fancy_input.specs.Lines.{byte_before}
use Rattle.fancy_prices.specs.Entries.{TakeInAll, is_told}
use Rattle.fancy_prices.specs.Around.{row_of}
use Rattle.fancy_prices.proofs.entries.Told.priced_from.Given as goal

abbrev pub invariant-loop-place : goal.invariant-loop-place
invariant-loop-place l = record {
  passed : l.from < l.place;
  within : l.place ≤ l.to;
  few : l.returns ≤ (l.place - l.from) * 255;
  row : row_of l.self.rows (byte_before l.haystack l.place) ≡ Some l.row;
  told : TakeInAll (is_told (Some l.self)) l.haystack l.from (l.place - l.from) l.returns;
}
