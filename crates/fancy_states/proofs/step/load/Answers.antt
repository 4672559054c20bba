use Rattle.std.proofs.Common.{arith}
use Rattle.fancy_states.proofs.StepLemmas.{waiting_none, waiting_more}
use Rattle.fancy_states.proofs.step.load.Goals as goal

pub loop-from-init : goal.loop-from-init
loop-from-init c = waiting_none _ c.args.ways.now c.clear.ensures.items

pub loop-from-preserved : goal.loop-from-preserved
loop-from-preserved c =
    rw c.in_ok-push.ensures.items (waiting_more c.loop-from.stack.items c.args.ways.now c.loop-from.from (omega arith) (omega arith) c.loop-from.invariant)
