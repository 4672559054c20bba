use Rattle.std.proofs.Common.{sym, ap, ◌∙◌}
use Rattle.fancy_tree.specs.Sets.{is_odd, has}
use Rattle.fancy_tree.proofs.EdgesLemmas.{has_cut}
use Rattle.fancy_tree.proofs.set.Set.contains.Goals as goal

pub returns : goal.returns
unfolding is_odd
returns c = sym (has_cut _ _ _ c.edges_to.ensures) ∙ ap (λ es. has es c.args.c) c.edges.ensures
