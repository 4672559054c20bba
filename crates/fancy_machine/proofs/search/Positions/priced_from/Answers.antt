use Rattle.std.proofs.Common.{arith}
use Rattle.fancy_machine.proofs.search.Positions.priced_from.Goals as goal

pub returns : goal.returns
returns c =
    let priced = c.priced_from.ensures in
    record {
      passed = priced.passed;
      within = omega (arith, priced.within, c.min.ensures);
      inside = omega (arith, priced.within, c.min-to.ensures);
      one = λ e. let one = c.together.ensures.one e in omega (arith, one, priced.passed, priced.within, c.min.ensures, c.min-to.ensures);
      returns = priced.returns;
    }
