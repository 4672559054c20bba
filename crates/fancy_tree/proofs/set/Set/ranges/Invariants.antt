use Rattle.std.proofs.Common.{◌-◌, length}
use Rattle.fancy_tree.proofs.EdgesLemmas.{Listed}
use Rattle.fancy_tree.proofs.set.Set.ranges.Given as goal

abbrev pub invariant-loop-i : goal.invariant-loop-i
invariant-loop-i l = Listed l.edges l.out.items l.i

abbrev pub decreases-loop-i : goal.decreases-loop-i
decreases-loop-i l = length l.edges - l.i
