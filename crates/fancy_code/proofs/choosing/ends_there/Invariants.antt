use Rattle.fancy_tree.specs.declared.tree.Assertion.{Assertion}
use Rattle.fancy_code.specs.Code.{instrs_of}
use Rattle.fancy_code.specs.Foretold.{IsAnchored}
use Rattle.fancy_code.proofs.choosing.ends_there.Given as goal

-- what the code goes on by from where it stands, it goes on by from the beginning
abbrev pub invariant-loop : goal.invariant-loop
invariant-loop l = (a : Assertion) → IsAnchored (instrs_of l.fn.code) a l.at → IsAnchored (instrs_of l.fn.code) a l.fn.at
