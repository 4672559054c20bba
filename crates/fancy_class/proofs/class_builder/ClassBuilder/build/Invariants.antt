use Rattle.std.proofs.Common.{◌≡◌, ℕ, ◌||◌, take}
use Rattle.fancy_class.specs.ClassGrammar.{fold_case}
use Rattle.fancy_class.specs.Chains.{chain_members}
use Rattle.fancy_class.specs.ClassViews.{characters_in, items_members}
use Rattle.fancy_class.proofs.class_builder.ClassBuilder.build.Given as goal

abbrev pub invariant-loop-item : goal.invariant-loop-item
invariant-loop-item l = (x : ℕ) → chain_members l.all x
    ≡ ((chain_members l.fn.self.nested x || fold_case l.fn.context.meaning l.fn.context.fold (characters_in l.fn.self.ranges.items) x) || items_members l.fn.context (take l.item-index l.fn.self.named.items) x)
