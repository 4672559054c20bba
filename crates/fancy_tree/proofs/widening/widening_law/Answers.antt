use Rattle.ucd_case.proofs.FoldPairsLemmas.{IsFoldPairs-fold_pairs}
use Rattle.fancy_tree.proofs.SetLemmas.{widening_is}
use Rattle.fancy_tree.proofs.widening.widening_law.Goals as goal

pub returns : goal.returns
returns c = λ p x. widening_is _ p x IsFoldPairs-fold_pairs
