use Rattle.std.proofs.Common.{◌≤◌}
use Rattle.fancy_code.specs.Marking.{IsNumbered}
use Rattle.fancy_code.proofs.marking.numbers_of.Given as goal

abbrev pub invariant-loop-at : goal.invariant-loop-at
invariant-loop-at l = record {
  numbered : IsNumbered l.numbers.items l.width;
  few : l.width ≤ l.at;
}
