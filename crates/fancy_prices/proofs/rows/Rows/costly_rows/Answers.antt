use Rattle.std.proofs.Common.{◌≡◌, ℕ, ◌<◌, Bool, false, ◌∙◌, arith, length-set, slice_get}
use Rattle.fancy_prices.specs.Around.{costly_in}
use Rattle.fancy_prices.proofs.EntryLemmas.{one_more}
use Rattle.fancy_prices.proofs.rows.Rows.costly_rows.Goals as goal

pub loop-number-preserved : goal.loop-number-preserved
loop-number-preserved c =
    let size = c.loop-number.invariant.size in
    record {
      size = length-set c.loop-number.costly c.loop-number.number _ ∙ size;
      below = one_more false
          (λ (k : ℕ) (flag : Bool). flag ≡ false → (here : ℕ) → here < 256 → costly_in (slice_get c.args.self.now.rows.items k) here ≡ false)
          c.loop-number.costly c.loop-number.number _ (omega (arith, size, c.loop-number-test.true)) c.has_costly.ensures c.loop-number.invariant.below;
    }
