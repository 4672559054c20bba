use Rattle.fancy_tree.proofs.EdgesLemmas.{no_edges, no_edges-has}
use Rattle.fancy_tree.proofs.set.Set.empty.Goals as goal

pub invariant_of-result : goal.invariant_of-result
invariant_of-result c = record { are_edges = no_edges _ c.new.ensures.items }

pub returns-clause-none : goal.returns-clause-none
returns-clause-none c = λ x. no_edges-has _ x c.new.ensures.items
