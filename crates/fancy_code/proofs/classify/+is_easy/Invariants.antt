use Rattle.std.proofs.Common.{◌≡◌, map, drop}
use Rattle.fancy_tree.specs.Pattern.{pattern_of}
use Rattle.fancy_meaning.specs.Easy.{all_easy}
use Rattle.fancy_code.proofs.classify.+is_easy.Given as goal

abbrev pub invariant-are_easy-loop-i : goal.invariant-are_easy-loop-i
invariant-are_easy-loop-i l = all_easy (map pattern_of (drop l.i l.trees)) ≡ all_easy (map pattern_of l.trees)
