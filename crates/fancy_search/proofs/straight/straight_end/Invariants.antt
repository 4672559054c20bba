use Rattle.std.proofs.Common.{◌≡◌, ◌-◌}
use Rattle.fancy_code.specs.Code.{instrs_of}
use Rattle.fancy_code.specs.CodeLength.{code_len}
use Rattle.fancy_search.specs.Straight.{straight_end}
use Rattle.fancy_search.proofs.straight.straight_end.Given as goal

-- what is left to see
abbrev pub invariant-parts : goal.invariant-parts
invariant-parts l = straight_end l.code.start (code_len l.code - 2) (instrs_of l.code) ≡ straight_end l.at l.left (instrs_of l.code)

abbrev pub decreases-parts : goal.decreases-parts
decreases-parts l = l.left
