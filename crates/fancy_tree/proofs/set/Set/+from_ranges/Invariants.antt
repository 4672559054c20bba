use Rattle.std.proofs.Common.{length}
use Rattle.fancy_tree.proofs.set.Set.+from_ranges.Given as goal

abbrev pub decreases-from_ranges : goal.decreases-from_ranges
decreases-from_ranges l = length l.ranges.now
