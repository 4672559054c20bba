use Rattle.fancy_code.specs.Code.{instrs_of}
use Rattle.fancy_states.proofs.PlainLemmas.{NoEndBelow}
use Rattle.fancy_states.proofs.plain.ends_no_group.Given as goal

abbrev pub invariant-loop-at : goal.invariant-loop-at
invariant-loop-at l = NoEndBelow (instrs_of l.code) l.at
