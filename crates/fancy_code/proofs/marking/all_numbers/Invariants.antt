use Rattle.std.proofs.Common.{◌≡◌, ◌<◌, ℕ, Some, None}
use Rattle.std.specs.Prelude.{vec_len, slice_index_or}
use Rattle.fancy_code.proofs.marking.all_numbers.Given as goal

abbrev pub invariant-loop-at : goal.invariant-loop-at
invariant-loop-at l = record {
  many : vec_len l.numbers ≡ l.at;
  each : (k : ℕ) → k < l.at → slice_index_or l.numbers.items k None ≡ Some k;
}
