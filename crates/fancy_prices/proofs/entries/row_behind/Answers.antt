use Rattle.std.proofs.Common.{None, ◌∙◌, arith, length-set}
use Rattle.fancy_prices.specs.Around.{TellsBehind}
use Rattle.fancy_prices.proofs.EntryLemmas.{one_more}
use Rattle.fancy_prices.proofs.entries.row_behind.Goals as goal

pub loop-byte-preserved : goal.loop-byte-preserved
loop-byte-preserved c =
    let size = c.loop-byte.invariant.size in
    record {
      size = length-set c.loop-byte.row c.loop-byte.byte _ ∙ size;
      below = one_more None (TellsBehind c.args.code.now) c.loop-byte.row c.loop-byte.byte _ (omega (arith, size, c.loop-byte-test.true)) c.price_behind.ensures c.loop-byte.invariant.below;
    }

pub returns : goal.returns
returns c b lt = c.loop-byte.invariant.below b (omega (arith, lt, c.loop-byte-test.false))
