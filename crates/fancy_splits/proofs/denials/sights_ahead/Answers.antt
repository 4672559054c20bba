use Rattle.std.proofs.Common.{false, ◌∙◌, arith, length-set}
use Rattle.fancy_code.specs.Code.{instrs_of}
use Rattle.fancy_prices.proofs.EntryLemmas.{one_more}
use Rattle.fancy_splits.specs.declared.denials.Sight.TheVariants.{Unclear}
use Rattle.fancy_splits.specs.Denials.{IsSight}
use Rattle.fancy_splits.proofs.denials.sights_ahead.Goals as goal

pub loop-here-preserved : goal.loop-here-preserved
loop-here-preserved c =
    let size = c.loop-here.invariant.size in
    record {
      size = length-set c.loop-here.sights c.loop-here.here _ ∙ size;
      below = one_more Unclear (IsSight (instrs_of c.args.code.now) c.args.code.now.meaning false c.args.body) c.loop-here.sights c.loop-here.here _ (omega (arith, size, c.loop-here-test.true))
          c.sight_ahead.ensures c.loop-here.invariant.below;
    }

pub returns : goal.returns
returns c b lt = c.loop-here.invariant.below b (omega (arith, lt, c.loop-here-test.false))
