use Rattle.std.proofs.Common.{◌≡◌, map, drop}
use Rattle.fancy_tree.specs.Pattern.{pattern_of}
use Rattle.fancy_bytes.specs.Lists.{all_nullable, some_nullable}
use Rattle.fancy_bytes.proofs.start.+nullable.Given as goal

abbrev pub invariant-are_all_nullable-loop-i : goal.invariant-are_all_nullable-loop-i
invariant-are_all_nullable-loop-i l = all_nullable (map pattern_of l.trees) ≡ all_nullable (drop l.i (map pattern_of l.trees))

abbrev pub invariant-is_some_nullable-loop-i : goal.invariant-is_some_nullable-loop-i
invariant-is_some_nullable-loop-i l = some_nullable (map pattern_of l.trees) ≡ some_nullable (drop l.i (map pattern_of l.trees))
