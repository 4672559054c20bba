use Rattle.std.proofs.Common.{List, subst}
use Rattle.fancy_tree.proofs.SetLemmas.{same_set}
use Rattle.fancy_class.specs.declared.chain.Step.{Step}
use Rattle.fancy_class.specs.Chains.{steps_of, Changes}
use Rattle.fancy_class.proofs.ChainLemmas.{changed}
use Rattle.fancy_class.proofs.chain.Chain.settled.Goals as goal

pub returns : goal.returns
returns c =
    let made = subst (λ (l : List Step). Changes c.in_ok-change.change (steps_of l)) c.deref.ensures.value c.in_ok-change.ensures in
    same_set c.of.result (λ x. changed c.args.self.now.set (steps_of c.args.self.now.steps.items) _ _ x (made x).0 (made x).1) c.of.ensures
