use Rattle.std.proofs.Common.{◌≡◌, ◌++◌, map, drop}
use Rattle.fancy_tree.specs.Pattern.{pattern_of}
use Rattle.fancy_bytes.specs.Openings.{opening_of_row, are_literal}
use Rattle.fancy_bytes.proofs.opening.+opening.Given as goal

abbrev pub invariant-add_openings-loop-i : goal.invariant-add_openings-loop-i
invariant-add_openings-loop-i l =
    (l.text.items ++ opening_of_row l.meaning (drop l.i (map pattern_of l.trees)) ≡ l.fn.text.items ++ opening_of_row l.meaning (map pattern_of l.trees))
    × (are_literal l.meaning (drop l.i (map pattern_of l.trees)) ≡ are_literal l.meaning (map pattern_of l.trees))
