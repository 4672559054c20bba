use Rattle.std.proofs.Common.{ap, ◌∙◌}
use Rattle.fancy_class.specs.Chains.{chain_members}
use Rattle.fancy_class.specs.ClassViews.{items_members}
use Rattle.fancy_class.proofs.ClassBuilderLemmas.{builder_none}
use Rattle.fancy_class.proofs.class_builder.ClassBuilder.new.Goals as goal

pub returns : goal.returns
returns c = λ context x. builder_none context.meaning context.fold (chain_members c.new-3.result) c.new.result.items (items_members context c.new-2.result.items x) x (c.new-3.ensures x ∙ c.empty.ensures.none x) c.new.ensures.items
    (ap (λ items. items_members context items x) c.new-2.ensures.items)
