use Rattle.std.proofs.Common.{◌≡◌, map, take, sum_by, min, ◌^◌, ◌-◌}
use Rattle.fancy_tree.specs.Pattern.{pattern_of}
use Rattle.fancy_tree.specs.Sizes.{nodes}
use Rattle.fancy_tree.proofs.+nodes.Given as goal

abbrev pub invariant-measure::nodes_of_all-loop-i : goal.invariant-measure::nodes_of_all-loop-i
invariant-measure::nodes_of_all-loop-i l = l.total ≡ min (sum_by nodes (map pattern_of (take l.i l.trees))) (2 ^ 64 - 1)
