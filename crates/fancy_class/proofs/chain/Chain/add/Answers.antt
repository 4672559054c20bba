use Rattle.std.proofs.Common.{ap, ◌∙◌}
use Rattle.fancy_tree.specs.Members.{members}
use Rattle.fancy_class.specs.ClassGrammar.{combine_all}
use Rattle.fancy_class.specs.Chains.{steps_of}
use Rattle.fancy_class.proofs.ChainLemmas.{added}
use Rattle.fancy_class.proofs.chain.Chain.add.Goals as goal

pub returns-in_ok-self : goal.returns-in_ok-self
returns-in_ok-self c = λ x.
    ap (λ l. combine_all (members c.in_ok-self.field-0) (steps_of l) x) c.clear.ensures.items
    ∙ (c.in_ok-self.ensures x ∙ added (members c.args.self.now.set) c.args.self.now.steps.items c.push.new.self.items (record { how = c.args.how; right = c.args.right }) x c.in_ok-push.ensures.items)

pub returns-else-self-edges : goal.returns-else-self-edges
returns-else-self-edges c = λ x. added (members c.args.self.now.set) c.args.self.now.steps.items c.push.new.self.items (record { how = c.args.how; right = c.args.right }) x c.in_ok-push.ensures.items
