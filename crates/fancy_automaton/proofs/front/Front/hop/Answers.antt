use Rattle.std.proofs.Common.{arith}
use Rattle.fancy_automaton.proofs.front.Front.hop.Goals as goal

pub returns : goal.returns
returns c = record {
  front = c.in_ok-reached.ensures.front;
  forth = omega (arith, c.in_ok-followed.ensures.forth, c.in_ok-reached.ensures.forth);
  ends = c.in_ok-reached.ensures.ends;
}
