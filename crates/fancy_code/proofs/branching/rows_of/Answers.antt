use Rattle.std.proofs.Common.{ℕ, ◌∷◌, ◌∙◌, List, [], true, length, sym, ap, subst, arith, length-append}
use Rattle.std.specs.Prelude.{slice_get, slice_index}
use Rattle.std.specs.Global.{Vec}
use Rattle.fancy_bytes.specs.Sets.{ByteFlags}
use Rattle.fancy_code.specs.Code.{instrs_of}
use Rattle.fancy_code.specs.Foretold.{Foretold}
use Rattle.fancy_code.proofs.BranchingLemmas.{each_more}
use Rattle.fancy_code.proofs.branching.rows_of.Goals as goal

pub loop-number-preserved : goal.loop-number-preserved
loop-number-preserved c = record {
  count = omega (arith, ap length c.in_ok-push.ensures.items, length-append c.loop-number.rows.items (c.in_ok-row.row ∷ []), c.loop-number.invariant.count);
  each = λ number row e.
      each_more (λ (n : ℕ) (y : Vec ByteFlags). Foretold (instrs_of c.args.code.now) c.args.code.now.meaning y.items 0 true (slice_index c.args.heads.now n)) c.loop-number.rows.items c.in_ok-row.row
      c.loop-number.invariant.each
      (subst (λ (n : ℕ). Foretold (instrs_of c.args.code.now) c.args.code.now.meaning c.in_ok-row.row.items 0 true (slice_index c.args.heads.now n)) (sym c.loop-number.invariant.count) c.in_ok-row.ensures)
      number row (sym (ap (λ (rows : List (Vec ByteFlags)). slice_get rows number) c.in_ok-push.ensures.items) ∙ e);
}
