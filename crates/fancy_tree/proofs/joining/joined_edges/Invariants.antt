use Rattle.std.proofs.Common.{length}
use Rattle.fancy_tree.proofs.JoiningLemmas.{Joined}
use Rattle.fancy_tree.proofs.joining.joined_edges.Given as goal

abbrev pub invariant-loop-rest : goal.invariant-loop-rest
invariant-loop-rest l = Joined l.ranges l.edges.items l.begin l.end l.rest

abbrev pub decreases-loop-rest : goal.decreases-loop-rest
decreases-loop-rest l = length l.rest
