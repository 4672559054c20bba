use Rattle.std.proofs.Common.{◌||◌, ap, ◌∙◌}
use Rattle.fancy_tree.specs.Members.{members}
use Rattle.fancy_class.specs.ClassGrammar.{fold_case}
use Rattle.fancy_class.specs.Chains.{chain_members}
use Rattle.fancy_class.specs.ClassViews.{characters_in, items_members}
use Rattle.fancy_class.proofs.ClassBuilderLemmas.{or_first}
use Rattle.fancy_class.proofs.class_builder.ClassBuilder.add_class.Goals as goal

pub returns : goal.returns
returns c = λ context x.
    let old = c.args.self.now in
    let ranges = fold_case context.meaning context.fold (characters_in old.ranges.items) x in
    let named = items_members context old.named.items x in
    ap (λ b. (b || ranges) || named) (c.in_ok-add.ensures x) ∙ or_first (chain_members old.nested x) ranges named (members c.args.set x)
