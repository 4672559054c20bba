-- What is told of attempts with a code.
use Rattle.std.specs.Prelude.{IfSome}
use Rattle.fancy_code.specs.declared.code.Code.{Code}
use Rattle.fancy_splits.specs.declared.prices.Prices.{Prices}
use Rattle.fancy_prices.specs.Entries.{AreEntries, is_entry}
use Rattle.fancy_splits.specs.Front.{IsFront}
use Rattle.fancy_splits.specs.Splits.{AreSplits}

-- the entries and the choices are those of the code, and attempts come to the loop
pub record ArePrices (p : Prices) (code : Code) : Type 0 where
  pub entries : AreEntries (is_entry p.entries) code
  pub splits : AreSplits p.splits code
  pub front : IfSome p.front (IsFront p.splits code code.start)
