use Rattle.fancy_tree.proofs.JoiningLemmas.{part_edges, part_has}
use Rattle.fancy_tree.proofs.joining.put_part.Goals as goal

pub returns-in_ok-push-2-clause-edges : goal.returns-in_ok-push-2-clause-edges
returns-in_ok-push-2-clause-edges c = part_edges _ _ _ _ _ c.requires.edges c.requires.below c.if-begin-end.true
    c.requires.within c.in_ok-push.ensures.items c.in_ok-push-2.ensures.items

pub returns-in_ok-push-2-clause-members : goal.returns-in_ok-push-2-clause-members
returns-in_ok-push-2-clause-members c = λ x. part_has _ _ _ _ _ x c.requires.edges c.requires.below c.if-begin-end.true
    c.in_ok-push.ensures.items c.in_ok-push-2.ensures.items
