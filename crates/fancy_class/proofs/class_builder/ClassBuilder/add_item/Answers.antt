use Rattle.std.proofs.Common.{◌≡◌, ◌||◌, true, sym, ap, ◌∙◌}
use Rattle.std.specs.List.{list_any}
use Rattle.fancy_class.specs.contracts.class_item.ClassItemPartialEq.TheImpl as TheImpl
use Rattle.fancy_class.specs.ClassGrammar.{fold_case}
use Rattle.fancy_class.specs.Chains.{chain_members}
use Rattle.fancy_class.specs.ClassViews.{characters_in, items_members}
use Rattle.fancy_class.proofs.ClassBuilderLemmas.{builder_range, items_more, items_again}
use Rattle.fancy_class.proofs.class_builder.ClassBuilder.add_item.Goals as goal

pub returns-in_ok-push : goal.returns-in_ok-push
returns-in_ok-push c = λ context x.
    let old = c.args.self.now in
    rw c.in-Range.is
    (builder_range context.meaning context.fold (chain_members old.nested) old.ranges.items c.push.new.self.items c.in-Range.first c.in-Range.last (items_members context old.named.items x) x c.in_ok-push.ensures.items)

pub returns-in_ok-push-2 : goal.returns-in_ok-push-2
returns-in_ok-push-2 c = λ context x.
    let old = c.args.self.now in
    items_more context old.named.items c.push-then-not-contains.new.self.items c.args.item (chain_members old.nested x || fold_case context.meaning context.fold (characters_in old.ranges.items) x) x c.in_ok-push-2.ensures.items

pub returns-else-not-contains : goal.returns-else-not-contains
returns-else-not-contains c = λ context x.
    let old = c.args.self.now in
    let again : list_any (λ y. (TheImpl.ghosts).eq y c.args.item) old.named.items ≡ true =
    ap (list_any (λ y. (TheImpl.ghosts).eq y c.args.item)) (sym c.deref.ensures.value) ∙ (sym c.contains.ensures.value ∙ c.if-not-contains.false) in
    items_again context old.named.items c.args.item (chain_members old.nested x || fold_case context.meaning context.fold (characters_in old.ranges.items) x) x again
