use Rattle.std.proofs.Common.{◌&&◌, ap, ◌∙◌}
use mathlib.Core.Path.{fun_ext}
use Rattle.fancy_tree.specs.declared.tree.Meaning.TheVariants.{Unicode}
use Rattle.fancy_tree.specs.Named.{in_universe}
use Rattle.fancy_tree.proofs.EdgesLemmas.{in_ranges-one}
use Rattle.fancy_tree.proofs.SetLemmas.{same_set}
use Rattle.fancy_class.specs.ClassGrammar.{fold_case, set_members}
use Rattle.fancy_class.proofs.context.ClassContext.item_set.Goals as goal

pub returns-in_ok-characters-in-Range : goal.returns-in_ok-characters-in-Range
returns-in_ok-characters-in-Range c =
    rw c.in-Range.is
    (same_set c.fold_case.result
    (λ x. ap (λ f. fold_case c.args.self.meaning c.args.self.fold f x)
    (fun_ext (λ y. c.in_ok-characters-in-Range.ensures y ∙ ap (λ b. in_universe Unicode y && b) (in_ranges-one (c.in-Range.first, c.in-Range.last) y)))) c.fold_case.ensures)

pub returns-in_ok-members_of-in-NamedSet : goal.returns-in_ok-members_of-in-NamedSet
returns-in_ok-members_of-in-NamedSet c =
    rw c.in-NamedSet.is
    (same_set c.named_set.result (λ x. ap (λ f. set_members c.args.self.meaning c.args.self.fold c.in-NamedSet.negated f x) (fun_ext c.in_ok-members_of-in-NamedSet.ensures)) c.named_set.ensures)

pub returns-in_ok-property_members-in-Property : goal.returns-in_ok-property_members-in-Property
returns-in_ok-property_members-in-Property c =
    rw c.in-Property.is
    (same_set c.named_set-in-Property.result (λ x. ap (λ f. set_members c.args.self.meaning c.args.self.fold c.in-Property.negated f x) (fun_ext c.in_ok-property_members-in-Property.ensures)) c.named_set-in-Property.ensures)
