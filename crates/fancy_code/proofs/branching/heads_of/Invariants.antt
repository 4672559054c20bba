use Rattle.fancy_code.specs.Branches.{SplitsTo}
use Rattle.fancy_code.specs.Code.{instrs_of}
use Rattle.fancy_code.proofs.branching.heads_of.Given as goal

abbrev pub invariant-loop : goal.invariant-loop
invariant-loop l = SplitsTo (instrs_of l.code) l.fn.first l.heads.items l.at
