use Rattle.std.proofs.Common.{◌≡◌, true, map, take}
use Rattle.std.specs.List.{list_all}
use Rattle.fancy_tree.specs.Pattern.{pattern_of}
use Rattle.fancy_tree.specs.Sizes.{are_sized}
use Rattle.fancy_tree.proofs.+sized.Given as goal

abbrev pub invariant-look_behind::are_sized-loop-i : goal.invariant-look_behind::are_sized-loop-i
invariant-look_behind::are_sized-loop-i l = list_all (are_sized l.meaning) (map pattern_of (take l.i l.trees)) ≡ true
