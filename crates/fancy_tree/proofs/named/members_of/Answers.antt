use Rattle.std.proofs.Common.{sym, ◌∙◌, ◌&&◌}
use Rattle.unicode.specs.Rows.{in_ranges}
use Rattle.fancy_tree.specs.declared.tree.Meaning.TheVariants.{Unicode}
use Rattle.fancy_tree.specs.Named.{in_universe, in_wide, ascii_ranges}
use Rattle.fancy_tree.proofs.SetLemmas.{same_set, wide_is, narrow_is}
use Rattle.fancy_tree.proofs.named.members_of.Goals as goal

pub returns-in_ok-wide_ranges : goal.returns-in_ok-wide_ranges
returns-in_ok-wide_ranges c =
    same_set c.characters.result (λ x. wide_is _ _ (in_wide c.args.which) (λ y. in_ranges (ascii_ranges c.args.which) y) x (sym c.if-is_wide_in.true ∙ c.is_wide_in.ensures) (rw c.deref.ensures.value c.in_ok-wide_ranges.ensures)) c.characters.ensures

pub returns-else-is_wide_in : goal.returns-else-is_wide_in
returns-else-is_wide_in c =
    same_set c.from_ranges.result (λ x. narrow_is _ _ c.args.which (λ y. in_universe Unicode y && in_wide c.args.which y) x (sym c.if-is_wide_in.false ∙ c.is_wide_in.ensures) c.ascii_ranges.ensures) c.from_ranges.ensures
