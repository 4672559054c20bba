use Rattle.std.proofs.Common.{ℕ, ◌∙◌, slice_index, refl, arith, length-set, bit_or}
use Rattle.fancy_bytes.proofs.SetLemmas.{set_step}
use Rattle.fancy_bytes.proofs.byte_set.union_of.Goals as goal

pub loop-i-preserved : goal.loop-i-preserved
loop-i-preserved c =
    let size = c.loop-i.invariant.size in
    record {
      size = length-set c.loop-i.words c.loop-i.i _ ∙ size;
      below = set_step c.loop-i.words (λ (k : ℕ). bit_or (slice_index c.args.a.now k) (slice_index c.args.b.now k)) c.loop-i.i _ (omega arith) refl c.loop-i.invariant.below;
    }
