use Rattle.std.proofs.Common.{arith}
use Rattle.fancy_automaton.proofs.SoleLemmas.{all_below}
use Rattle.fancy_automaton.proofs.amid.first_below.Goals as goal

pub returns-clause-all : goal.returns-clause-all
returns-clause-all c all = all_below c.args.numbers.now c.args.bound c.numbers.i (omega (arith, c.numbers-test.false, c.numbers.auto.i-end)) c.numbers.invariant
