use Rattle.std.proofs.Common.{◌≡◌, ℕ, Bool, false, ◌∙◌, arith, length-set}
use Rattle.fancy_bytes.specs.Sets.{member}
use Rattle.fancy_prices.proofs.EntryLemmas.{one_more}
use Rattle.fancy_splits.proofs.splits.flags_of.Goals as goal

pub loop-byte-preserved : goal.loop-byte-preserved
unfolding member
loop-byte-preserved c =
    let size = c.loop-byte.invariant.size in
    record {
      size = length-set c.loop-byte.flags c.loop-byte.byte _ ∙ size;
      below = one_more false (λ (b : ℕ) (flag : Bool). flag ≡ member c.args.set.now b) c.loop-byte.flags c.loop-byte.byte _
          (omega (arith, size, c.loop-byte-test.true)) c.contains.ensures c.loop-byte.invariant.below;
    }
