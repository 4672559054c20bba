use Rattle.std.proofs.Common.{◌+◌, ap}
use Rattle.fancy_tree.proofs.JoiningLemmas.{front, joined_start, joined_longer, joined_opened, joined_passed, joined_all}
use Rattle.fancy_tree.proofs.joining.joined_edges.Goals as goal

pub loop-rest-init : goal.loop-rest-init
loop-rest-init c = joined_start _ _ c.in_ok-edges.ensures.items c.requires

pub loop-rest-preserved-then-first-end : goal.loop-rest-preserved-then-first-end
loop-rest-preserved-then-first-end c = joined_longer c.loop-rest.invariant (front _ c.in-len1-up.len_at_least)
    (ap (λ n. n + 1) c.min-past.ensures) _ c.if-first-end.true c.max-end.ensures

pub loop-rest-preserved-in_ok-put_part : goal.loop-rest-preserved-in_ok-put_part
loop-rest-preserved-in_ok-put_part c =
    joined_opened c.loop-rest.invariant (front _ c.in-len1-up.len_at_least) (ap (λ n. n + 1) c.min-past.ensures) _
    c.if-first-end.false c.if-first-past.true
    c.in_ok-put_part.ensures.edges c.in_ok-put_part.ensures.below c.in_ok-put_part.ensures.members

pub loop-rest-preserved : goal.loop-rest-preserved
loop-rest-preserved c = joined_passed c.loop-rest.invariant (front _ c.in-len1-up.len_at_least)
    (ap (λ n. n + 1) c.min-past.ensures) c.if-first-past.false

pub returns-clause-members : goal.returns-clause-members
returns-clause-members c = λ x. joined_all _ _ _ _ _ x _ c.loop-rest.invariant c.in_default.len_below
    (c.in_ok-put_part-2.ensures.members x)
