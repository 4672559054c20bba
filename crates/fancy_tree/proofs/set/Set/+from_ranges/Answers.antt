use Rattle.std.proofs.Common.{◌∙◌, sym, rules}
use Rattle.fancy_tree.proofs.EdgesLemmas.{halves}
use Rattle.fancy_tree.proofs.JoiningLemmas.{two_or_more}
use Rattle.fancy_tree.proofs.SetLemmas.{same_set}
use Rattle.fancy_tree.proofs.set.Set.+from_ranges.Goals as goal

pub returns : goal.returns
returns t c = same_set c.combine.result (λ x. halves c.args.ranges.now _ _ x _ _ (search rules) (c.in_ok-left.ensures x) (c.in_ok-right.ensures x)) c.combine.ensures

pub from_ranges-requires : goal.from_ranges-requires
from_ranges-requires t c = let two = two_or_more c.args.ranges.now (sym c.are_in_order.ensures ∙ c.if-are_in_order.false) in search rules

pub from_ranges-requires-2 : goal.from_ranges-requires-2
from_ranges-requires-2 t c = let two = two_or_more c.args.ranges.now (sym c.are_in_order.ensures ∙ c.if-are_in_order.false) in search rules
