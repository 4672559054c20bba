use Rattle.fancy_required.proofs.LongestLemmas.{SeenTo}
use Rattle.fancy_required.proofs.told.longest_text.Given as goal

abbrev pub invariant-loop-i : goal.invariant-loop-i
invariant-loop-i l = SeenTo l.told l.i l.longest l.most l.len
