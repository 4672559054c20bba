use Rattle.fancy_tree.proofs.JoiningLemmas.{front, order_goes_on, order_passes, order_breaks, order_ends}
use Rattle.fancy_tree.proofs.joining.are_in_order.Goals as goal

pub returns-then-first-low : goal.returns-then-first-low
returns-then-first-low c = order_breaks _ _ c.loop-rest.invariant (front _ c.in-len1-up.len_at_least) c.if-first-last.true
    c.if-first-low.true

pub loop-rest-preserved-else-first-low : goal.loop-rest-preserved-else-first-low
loop-rest-preserved-else-first-low c = order_goes_on _ _ c.loop-rest.invariant (front _ c.in-len1-up.len_at_least)
    c.if-first-last.true c.if-first-low.false

pub loop-rest-preserved : goal.loop-rest-preserved
loop-rest-preserved c = order_passes _ _ c.loop-rest.invariant (front _ c.in-len1-up.len_at_least) c.if-first-last.false

pub returns : goal.returns
returns c = order_ends _ _ _ c.loop-rest.invariant c.in_default.len_below
