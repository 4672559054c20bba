use Rattle.fancy_code.specs.Code.{instrs_of}
use Rattle.fancy_states.proofs.PlainLemmas.{PlainBelow}
use Rattle.fancy_states.proofs.plain.is_plain.Given as goal

abbrev pub invariant-loop-at : goal.invariant-loop-at
invariant-loop-at l = PlainBelow (instrs_of l.code) l.at
