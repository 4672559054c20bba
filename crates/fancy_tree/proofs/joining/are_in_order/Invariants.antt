use Rattle.std.proofs.Common.{◌≡◌, length}
use Rattle.fancy_tree.specs.SetViews.{begin_in_order}
use Rattle.fancy_tree.proofs.joining.are_in_order.Given as goal

abbrev pub invariant-loop-rest : goal.invariant-loop-rest
invariant-loop-rest l = begin_in_order l.low l.rest ≡ begin_in_order 0 l.ranges

abbrev pub decreases-loop-rest : goal.decreases-loop-rest
decreases-loop-rest l = length l.rest
