use Rattle.std.proofs.Common.{◌∙◌}
use Rattle.fancy_tree.proofs.SetLemmas.{same_set}
use Rattle.fancy_tree.proofs.SharingLemmas.{fold_pairs_ordered, partners_are}
use Rattle.fancy_tree.proofs.sharing.partners.Goals as goal

pub pairs_below-first-requires : goal.pairs_below-first-requires
pairs_below-first-requires c = fold_pairs_ordered _ c.fold_pairs-pairs.ensures.table

pub pairs_below-last-requires : goal.pairs_below-last-requires
pairs_below-last-requires c = fold_pairs_ordered _ c.fold_pairs-pairs.ensures.table

pub returns : goal.returns
returns c = same_set c.from_ranges.result
    (λ x. partners_are c.fold_pairs-pairs.result.now c.deref.result.now c.args.c c.pairs_below-first.result c.pairs_below-last.result x c.fold_pairs-pairs.ensures.table c.pairs_below-first.ensures c.pairs_below-last.ensures
    (c.deref.ensures.value ∙ c.in_ok-others.ensures)) c.from_ranges.ensures
