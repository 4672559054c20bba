use Rattle.std.proofs.Common.{arith}
use Rattle.fancy_prices.specs.Entries.{is_entry}
use Rattle.fancy_prices.proofs.EntryLemmas.{one_told}
use Rattle.fancy_prices.proofs.entries.Entries.priced_from.Goals as goal

pub returns-in-None : goal.returns-in-None
returns-in-None c =
    record {
      passed = omega arith;
      within = omega (arith, c.requires.ordered);
      returns = one_told (is_entry c.args.self.now) c.args.haystack.now c.args.from _ c.args.price (omega arith) c.requires.told;
    }
