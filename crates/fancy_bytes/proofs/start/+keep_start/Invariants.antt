use Rattle.std.proofs.Common.{◌≡◌, map, drop}
use Rattle.fancy_tree.specs.Pattern.{pattern_of}
use Rattle.fancy_bytes.specs.Lists.{some_keep_start}
use Rattle.fancy_bytes.proofs.start.+keep_start.Given as goal

abbrev pub invariant-is_some_keep_start-loop-i : goal.invariant-is_some_keep_start-loop-i
invariant-is_some_keep_start-loop-i l = some_keep_start (map pattern_of l.trees) ≡ some_keep_start (drop l.i (map pattern_of l.trees))
