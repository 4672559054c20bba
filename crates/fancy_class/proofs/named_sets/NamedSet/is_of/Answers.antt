use Rattle.std.proofs.Common.{sym, ◌∙◌}
use Rattle.fancy_class.proofs.ItemLemmas.{same_item}
use Rattle.fancy_class.proofs.named_sets.NamedSet.is_of.Goals as goal

pub returns-then-self-context-clause-item : goal.returns-then-self-context-clause-item
returns-then-self-context-clause-item c = λ is. same_item _ _ (sym c.eq-then-self-context.ensures ∙ is)
