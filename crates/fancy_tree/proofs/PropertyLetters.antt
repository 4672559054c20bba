-- The names of one letter are groups of general categories, whatever else has a name.
use Rattle.std.proofs.Common.{◌≡◌, [], ◌∷◌, Some, refl}
use Rattle.ucd_sets.proofs.Computing.{ucd_sets}
use Rattle.ucd_sets.specs.Loose.{normalize}
use Rattle.ucd_sets.specs.Lookup.{by_name}
use Rattle.ucd_sets.specs.declared.set.Set.TheVariants as set
use Rattle.ucd_category.specs.declared.GeneralCategoryGroup.TheVariants.{Letter, Mark, Number, Punctuation, Symbol, Separator, Other}
use Rattle.fancy_tree.specs.Properties.{property_named}

pub letter_l : (property_named (76 ∷ []) ≡ Some (set.CategoryGroup Letter)) × (property_named (108 ∷ []) ≡ Some (set.CategoryGroup Letter))
unfolding ucd_sets by_name normalize
letter_l = (refl, refl)

pub letter_m : (property_named (77 ∷ []) ≡ Some (set.CategoryGroup Mark)) × (property_named (109 ∷ []) ≡ Some (set.CategoryGroup Mark))
unfolding ucd_sets by_name normalize
letter_m = (refl, refl)

pub letter_n : (property_named (78 ∷ []) ≡ Some (set.CategoryGroup Number)) × (property_named (110 ∷ []) ≡ Some (set.CategoryGroup Number))
unfolding ucd_sets by_name normalize
letter_n = (refl, refl)

pub letter_p : (property_named (80 ∷ []) ≡ Some (set.CategoryGroup Punctuation)) × (property_named (112 ∷ []) ≡ Some (set.CategoryGroup Punctuation))
unfolding ucd_sets by_name normalize
letter_p = (refl, refl)

pub letter_s : (property_named (83 ∷ []) ≡ Some (set.CategoryGroup Symbol)) × (property_named (115 ∷ []) ≡ Some (set.CategoryGroup Symbol))
unfolding ucd_sets by_name normalize
letter_s = (refl, refl)

pub letter_z : (property_named (90 ∷ []) ≡ Some (set.CategoryGroup Separator)) × (property_named (122 ∷ []) ≡ Some (set.CategoryGroup Separator))
unfolding ucd_sets by_name normalize
letter_z = (refl, refl)

pub letter_c : (property_named (67 ∷ []) ≡ Some (set.CategoryGroup Other)) × (property_named (99 ∷ []) ≡ Some (set.CategoryGroup Other))
unfolding ucd_sets by_name normalize
letter_c = (refl, refl)
