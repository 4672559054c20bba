use Rattle.std.proofs.Common.{true}
use Rattle.fancy_code.specs.Code.{instrs_of}
use Rattle.fancy_splits.specs.Denials.{AreSights}
use Rattle.fancy_splits.proofs.denials.sights_behind.Given as goal

abbrev pub invariant-loop-kind : goal.invariant-loop-kind
invariant-loop-kind l = AreSights (instrs_of l.code) l.code.meaning true l.body l.sights
