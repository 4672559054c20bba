use Rattle.std.proofs.Common.{◌≡◌, ◌<◌, ℕ, List}
use Rattle.std.specs.Prelude.{slice_index_or}
use Rattle.fancy_tree.specs.declared.char_set.CharSet.{CharSet}
use Rattle.fancy_code.specs.Instructions.{Fail, with_sets}
use Rattle.fancy_code.specs.Marking.{cost_in, worth_in, sum_to}
use Rattle.fancy_code.proofs.marking.is_paid.Given as goal

abbrev pub invariant-loop-at : goal.invariant-loop-at
invariant-loop-at l = record {
  pays : (sets : List CharSet) (k : ℕ) → k < l.at → cost_in l.numbers l.weights (slice_index_or (with_sets sets l.instrs) k Fail) < slice_index_or l.weights k 0;
  total : l.total ≡ sum_to (worth_in l.numbers l.weights) l.at;
}
