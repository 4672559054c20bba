use Rattle.fancy_tree.proofs.EdgesLemmas.{range_edges, range_has}
use Rattle.fancy_tree.proofs.set.Set.range.Goals as goal

pub invariant_of-result : goal.invariant_of-result
invariant_of-result c = record { are_edges = range_edges _ _ _ c.in_ok-from_slice.ensures.items c.if-last-first.false c.requires }

pub returns : goal.returns
returns c = λ x. range_has _ _ _ x c.in_ok-from_slice.ensures.items c.if-last-first.false
