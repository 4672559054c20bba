use Rattle.std.proofs.Common.{◌≡◌, ◌++◌, take, drop}
use Rattle.fancy_tree.specs.Names.{name_here}
use Rattle.fancy_tree.proofs.name.split_name.Given as goal

abbrev pub invariant-loop-i : goal.invariant-loop-i
invariant-loop-i l = name_here l.text ≡ take l.i l.text ++ name_here (drop l.i l.text)
