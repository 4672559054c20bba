use Rattle.fancy_tree.proofs.SetLemmas.{same_set, in_both}
use Rattle.fancy_tree.proofs.named.characters.Goals as goal

pub returns : goal.returns
returns c = same_set c.combine.result (λ x. in_both _ _ _ x (c.in_ok-all.ensures x) (c.in_ok-found.ensures x)) c.combine.ensures
