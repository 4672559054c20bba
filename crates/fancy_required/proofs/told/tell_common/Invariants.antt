use Rattle.std.proofs.Common.{drop}
use Rattle.fancy_required.specs.Told.{TellsBoth}
use Rattle.fancy_required.proofs.ToldLemmas.{SoFar}
use Rattle.fancy_required.proofs.told.tell_common.Given as goal

abbrev pub invariant-loop-i : goal.invariant-loop-i
invariant-loop-i l = SoFar (TellsBoth (drop l.i l.first) (drop l.i l.second)) (TellsBoth l.first l.second) l.fn.told.items l.told.items
