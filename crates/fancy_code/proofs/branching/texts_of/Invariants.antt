use Rattle.std.proofs.Common.{◌≡◌, ℕ, length}
use Rattle.std.specs.Prelude.{Some, slice_get, slice_index}
use Rattle.fancy_code.specs.Code.{instrs_of}
use Rattle.fancy_code.specs.Texts.{IsTextOf}
use Rattle.fancy_prefilter.specs.declared.text.Text.{Text}
use Rattle.fancy_code.proofs.branching.texts_of.Given as goal

abbrev pub invariant-loop-number : goal.invariant-loop-number
invariant-loop-number l = record {
  count : length l.texts.items ≡ l.number;
  each : (number : ℕ) (t : Text) → slice_get l.texts.items number ≡ Some t → IsTextOf t (instrs_of l.code) l.code.meaning (slice_index l.heads number);
}
