use Rattle.std.proofs.Common.{drop, map}
use Rattle.fancy_tree.specs.Pattern.{pattern_of}
use Rattle.fancy_required.specs.Told.{TellsRow}
use Rattle.fancy_required.proofs.ToldLemmas.{EachFrom, SoFar}
use Rattle.fancy_required.proofs.told.+telling.Given as goal

abbrev pub invariant-tell_row-loop-i : goal.invariant-tell_row-loop-i
invariant-tell_row-loop-i l = SoFar (TellsRow l.meaning (drop l.i (map pattern_of l.trees))) (TellsRow l.meaning (map pattern_of l.trees)) l.fn.told.items l.told.items

abbrev pub invariant-tell_branches-loop-i : goal.invariant-tell_branches-loop-i
invariant-tell_branches-loop-i l = EachFrom l.meaning (map pattern_of l.trees) l.i l.common.items
