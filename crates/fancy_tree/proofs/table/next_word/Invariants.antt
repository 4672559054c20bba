use Rattle.std.proofs.Common.{◌-◌, length}
use Rattle.fancy_tree.proofs.CharSetLemmas.{WordTo}
use Rattle.fancy_tree.proofs.table.next_word.Given as goal

abbrev pub invariant-loop-at : goal.invariant-loop-at
invariant-loop-at l = WordTo l.edges l.first l.at l.word

abbrev pub decreases-loop-at : goal.decreases-loop-at
decreases-loop-at l = length l.edges - l.at
