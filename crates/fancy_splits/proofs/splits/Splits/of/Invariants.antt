use Rattle.std.proofs.Common.{◌≡◌, ◌<◌, ◌≤◌, ℕ, Some, None, length}
use Rattle.std.specs.Prelude.{slice_index_or}
use Rattle.fancy_code.specs.Code.{instrs_of}
use Rattle.fancy_splits.specs.Splits.{AreNoted, IsTold}
use Rattle.fancy_splits.proofs.splits.Splits.of.Given as goal

abbrev pub invariant-loop-at : goal.invariant-loop-at
invariant-loop-at l = record {
  short : length l.splits.numbers.items ≤ l.at;
  few : length l.splits.parts.items ≤ 192;
  within : (q number : ℕ) → slice_index_or l.splits.numbers.items q None ≡ Some number → number < length l.splits.parts.items;
  noted : AreNoted (IsTold (instrs_of l.code) l.code.meaning) l.splits.numbers.items l.splits.parts.items;
}
