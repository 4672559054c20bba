use Rattle.std.proofs.Common.{◌≡◌, ◌<◌, ℕ, None, length}
use Rattle.std.specs.Prelude.{slice_index_or}
use Rattle.fancy_code.specs.Code.{instrs_of}
use Rattle.fancy_splits.specs.Splits.{LeadsBy}
use Rattle.fancy_splits.proofs.choices.choice_at.Given as goal

abbrev pub invariant-loop-here : goal.invariant-loop-here
invariant-loop-here l = record {
  size : length l.numbers ≡ 256;
  noted : (b : ℕ) → b < l.here → LeadsBy (instrs_of l.code) l.code.meaning l.passages.items l.at b (slice_index_or l.numbers b None);
}
