use Rattle.std.proofs.Common.{ℕ, ◌∷◌, ◌∙◌, List, [], length, sym, ap, subst, arith, length-append}
use Rattle.std.specs.Prelude.{slice_get, slice_index}
use Rattle.fancy_code.specs.Code.{instrs_of}
use Rattle.fancy_code.specs.Texts.{IsTextOf}
use Rattle.fancy_prefilter.specs.declared.text.Text.{Text}
use Rattle.fancy_code.proofs.BranchingLemmas.{each_more}
use Rattle.fancy_code.proofs.branching.texts_of.Goals as goal

pub loop-number-preserved : goal.loop-number-preserved
loop-number-preserved c = record {
  count = omega (arith, ap length c.in_ok-push.ensures.items, length-append c.loop-number.texts.items (c.in_ok-text.text ∷ []), c.loop-number.invariant.count);
  each = λ number t e.
      each_more (λ (n : ℕ) (y : Text). IsTextOf y (instrs_of c.args.code.now) c.args.code.now.meaning (slice_index c.args.heads.now n)) c.loop-number.texts.items c.in_ok-text.text
      c.loop-number.invariant.each
      (subst (λ (n : ℕ). IsTextOf c.in_ok-text.text (instrs_of c.args.code.now) c.args.code.now.meaning (slice_index c.args.heads.now n)) (sym c.loop-number.invariant.count) c.in_ok-text.ensures)
      number t (sym (ap (λ (texts : List Text). slice_get texts number) c.in_ok-push.ensures.items) ∙ e);
}
