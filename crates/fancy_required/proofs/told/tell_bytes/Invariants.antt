use Rattle.std.proofs.Common.{drop}
use Rattle.fancy_required.specs.Told.{TellsText}
use Rattle.fancy_required.proofs.ToldLemmas.{SoFar}
use Rattle.fancy_required.proofs.told.tell_bytes.Given as goal

abbrev pub invariant-loop-i : goal.invariant-loop-i
invariant-loop-i l = SoFar (TellsText (drop l.i l.bytes)) (TellsText l.bytes) l.fn.told.items l.told.items
