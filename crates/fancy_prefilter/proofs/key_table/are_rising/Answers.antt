use Rattle.std.proofs.Common.{ℕ, ◌+◌, slice_index, arith}
use Rattle.fancy_prefilter.specs.Keys.{RiseBetween}
use Rattle.fancy_prefilter.proofs.KeyLemmas.{one_more}
use Rattle.fancy_prefilter.proofs.key_table.are_rising.Goals as goal

pub loop-key-preserved : goal.loop-key-preserved
loop-key-preserved c =
    one_more (λ (k : ℕ). RiseBetween c.args.members.now (slice_index c.args.starts.now k) (slice_index c.args.starts.now (k + 1))) c.loop-key.key c.loop-key.invariant
    (c.do_rise.ensures c.if-not-do_rise.false)

pub returns : goal.returns
returns c e key lt = c.loop-key.invariant key (omega arith)
