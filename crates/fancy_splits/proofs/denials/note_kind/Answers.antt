use Rattle.std.proofs.Common.{true, length, ◌∙◌, ap, sym, subst, arith, length-set}
use Rattle.fancy_code.specs.Code.{instrs_of}
use Rattle.fancy_splits.specs.Denials.{AreSights}
use Rattle.fancy_splits.proofs.DenialLemmas.{sights_set}
use Rattle.fancy_splits.proofs.denials.note_kind.Goals as goal
use Rattle.fancy_splits.proofs.denials.note_kind.Goals.{then-has, else-has}

pub loop-byte-preserved : goal.loop-byte-preserved
loop-byte-preserved c =
    let size = c.loop-byte.invariant.size in
    elim c.if-has.branch [
      | then-has w ↦ record {
        size = ap length w.sights-is ∙ length-set c.loop-byte.sights c.loop-byte.byte _ ∙ size;
        each = subst (AreSights (instrs_of c.args.code.now) c.args.code.now.meaning true c.args.body) (sym w.sights-is)
            (sights_set (instrs_of c.args.code.now) c.args.code.now.meaning true c.args.body c.loop-byte.sights c.loop-byte.byte _ (omega (arith, size, c.loop-byte-test.true))
            (c.sight_behind-sight.ensures c.loop-byte.byte (omega (arith, c.loop-byte-test.true)) (sym c.has.ensures ∙ w.if-has.true)) c.loop-byte.invariant.each);
      }
      | else-has w ↦ record {
        size = ap length w.sights-is ∙ size;
        each = subst (AreSights (instrs_of c.args.code.now) c.args.code.now.meaning true c.args.body) (sym w.sights-is) c.loop-byte.invariant.each;
      }
    ]
