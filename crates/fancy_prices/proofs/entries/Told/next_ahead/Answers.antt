use Rattle.std.proofs.Common.{◌+◌, arith}
use Rattle.fancy_prices.proofs.EntryLemmas.{next_past}
use Rattle.fancy_prices.proofs.entries.Told.next_ahead.Goals as goal

pub returns-in-Some : goal.returns-in-Some
returns-in-Some c =
    let next = c.in-Some.ensures in
    record { passed = next.passed; within = omega (arith, next.within, c.min.ensures, c.requires.ordered); none = next.none }

pub returns-in-None : goal.returns-in-None
returns-in-None c =
    next_past c.args.self.now c.args.haystack.now c.args.from (c.args.from + c.min.result) c.args.to c.next_around.result (omega arith) c.in-None.ensures c.next_around.ensures
