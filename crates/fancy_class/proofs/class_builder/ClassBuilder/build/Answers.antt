use Rattle.std.proofs.Common.{◌≡◌, ◌||◌, ◌+◌, ap, ◌∙◌, sym, arith, take, get_or}
use mathlib.Core.Path.{fun_ext}
use Rattle.std.proofs.lemmas.List.{take_all, take_more}
use Rattle.fancy_tree.specs.Members.{members}
use Rattle.fancy_tree.proofs.EdgesLemmas.{or-false}
use Rattle.fancy_tree.proofs.SetLemmas.{same_set}
use Rattle.fancy_class.specs.ClassGrammar.{fold_case, item_members}
use Rattle.fancy_class.specs.declared.class_item.ClassItem.TheVariants.{Range}
use Rattle.fancy_class.specs.Chains.{chain_members}
use Rattle.fancy_class.specs.ClassViews.{characters_in, items_members}
use Rattle.fancy_class.proofs.ClassBuilderLemmas.{items_more}
use Rattle.fancy_class.proofs.class_builder.ClassBuilder.build.Goals as goal

pub loop-item-init : goal.loop-item-init
loop-item-init c = λ x.
    let context = c.args.context in
    let written : characters_in c.deref.result.now ≡ characters_in c.args.self.ranges.items = ap characters_in c.deref.ensures.value in
    let folded = c.in_ok-fold_case.ensures x ∙ (ap (λ f. fold_case context.meaning context.fold f x) (fun_ext c.in_ok-ranges.ensures) ∙ ap (λ f. fold_case context.meaning context.fold f x) written) in
    c.in_ok-add.ensures x ∙ (ap (λ b. chain_members c.args.self.nested x || b) folded ∙ sym (or-false _))

pub loop-item-preserved : goal.loop-item-preserved
loop-item-preserved c = λ x.
    let context = c.args.context in
    let items = c.args.self.named.items in
    let i = c.loop-item.item-index in
    let others = chain_members c.args.self.nested x || fold_case context.meaning context.fold (characters_in c.args.self.ranges.items) x in
    let is = c.in_ok-item_set.ensures x ∙ ap (λ l. item_members context.meaning context.fold (get_or l i (Range 0 0)) x) c.deref-item-items.ensures.value in
    c.in_ok-add-2.ensures x
    ∙ (ap (λ b. b || members c.in_ok-item_set.field-0 x) (c.loop-item.invariant x)
    ∙ (ap (λ b. (others || items_members context (take i items) x) || b) is
    ∙ sym (items_more context (take i items) (take (i + 1) items) (get_or items i (Range 0 0)) others x (take_more items i (Range 0 0) (omega arith)))))

pub returns : goal.returns
returns c = same_set c.into_set.result (λ x. c.loop-item.invariant x ∙ ap (λ l. (chain_members c.args.self.nested x || fold_case c.args.context.meaning c.args.context.fold (characters_in c.args.self.ranges.items) x) || items_members c.args.context l x) (take_all c.loop-item.item-index c.args.self.named.items (omega arith))) c.into_set.ensures
