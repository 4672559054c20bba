use Rattle.std.proofs.Common.{◌≡◌, ◌<◌, length, map, drop}
use Rattle.fancy_tree.specs.Pattern.{pattern_of, in_sequence, in_choice}
use Rattle.fancy_tree.specs.Sizes.{size, fitting_size}
use Rattle.fancy_tree.proofs.+size.Given as goal

abbrev pub invariant-measure::size_of_sequence-loop-i : goal.invariant-measure::size_of_sequence-loop-i
invariant-measure::size_of_sequence-loop-i l = l.total ≡ fitting_size (size l.meaning (in_sequence (map pattern_of (drop l.i l.parts))))

abbrev pub invariant-measure::size_of_choice-loop-i : goal.invariant-measure::size_of_choice-loop-i
invariant-measure::size_of_choice-loop-i l = record {
  known : l.shared ≡ fitting_size (size l.meaning (in_choice (map pattern_of (drop l.i l.branches))));
  within : l.i < length l.branches;
}
