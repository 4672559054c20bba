use Rattle.fancy_code.specs.Code.{instrs_of}
use Rattle.fancy_alphabet.proofs.SideLemmas.{ToldBelow}
use Rattle.fancy_alphabet.proofs.side.Tests.of_code.Given as goal

abbrev pub invariant-loop-at : goal.invariant-loop-at
invariant-loop-at l = ToldBelow (instrs_of l.code) l.at l.tests
