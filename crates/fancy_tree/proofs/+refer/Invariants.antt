use Rattle.std.proofs.Common.{◌≡◌, ◌++◌, map, take, drop}
use Rattle.fancy_tree.specs.Pattern.{pattern_of}
use Rattle.fancy_tree.specs.Refers.{number_in, refers_to}
use Rattle.fancy_tree.proofs.+refer.Given as goal

abbrev pub invariant-refer::refer_all-loop-i : goal.invariant-refer::refer_all-loop-i
invariant-refer::refer_all-loop-i l = record {
  unvisited : goal.unvisited-refer::refer_all-loop-i l;
  done : map pattern_of l.trees.items ≡ map (refers_to (number_in l.numbers)) (take l.i (map pattern_of l.initial.trees.items)) ++ drop l.i (map pattern_of l.initial.trees.items);
}
