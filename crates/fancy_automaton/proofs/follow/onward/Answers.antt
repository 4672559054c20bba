use Rattle.std.proofs.Common.{arith}
use Rattle.fancy_automaton.proofs.follow.onward.Goals as goal

pub returns : goal.returns
returns c = record {
  sole = c.in_ok-next.ensures.sole;
  forth = omega (arith, c.in_ok-next.ensures.forth, c.in_ok-sole.ensures.forth);
}
