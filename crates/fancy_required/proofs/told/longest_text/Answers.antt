use Rattle.std.proofs.Common.{◌+◌, arith}
use Rattle.fancy_required.proofs.LongestLemmas.{all_seen, byte_here, none_here, past_byte, past_longest, past_other}
use Rattle.fancy_required.proofs.told.longest_text.Goals as goal
use Rattle.fancy_required.proofs.told.longest_text.Goals.{then-len-most, else-len-most}

pub loop-i-preserved-in_default : goal.loop-i-preserved-in_default
loop-i-preserved-in_default c =
    past_other c.args.told.now c.loop-i.i c.loop-i.longest c.loop-i.most c.loop-i.len
    (none_here c.args.told.now c.loop-i.i _ (omega arith) c.in_default.not-One) c.loop-i.invariant

pub loop-i-preserved : goal.loop-i-preserved
loop-i-preserved c =
    let byte = byte_here c.args.told.now c.loop-i.i c.in-One.field-0 _ (omega arith) c.in-One.is in
    elim c.if-len-most.branch [
      | then-len-most w ↦
          past_longest c.args.told.now c.loop-i.i c.loop-i.longest c.loop-i.most c.loop-i.len c.if-len-most.longest c.if-len-most.most (c.loop-i.len + 1) byte (omega arith) (omega (arith, w.longest-is)) (omega (arith, w.most-is))
          (omega (arith, w.if-len-most.true)) c.loop-i.invariant
      | else-len-most w ↦
          past_byte c.args.told.now c.loop-i.i c.loop-i.longest c.loop-i.most c.loop-i.len c.if-len-most.longest c.if-len-most.most (c.loop-i.len + 1) byte (omega arith) (omega (arith, w.longest-is)) (omega (arith, w.most-is))
          (omega (arith, w.if-len-most.false)) c.loop-i.invariant
    ]

pub returns : goal.returns
returns c = all_seen c.args.told.now c.loop-i.i c.loop-i.longest c.loop-i.most c.loop-i.len (omega arith) c.loop-i.invariant
