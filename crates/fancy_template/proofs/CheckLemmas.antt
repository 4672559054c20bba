-- Lemmas on the faults of steps.
use Rattle.std.proofs.Common.{arith, ℕ, ◌<◌, ◌≤◌, ◌≡◌, ◌==◌, nat_lt, false, List, ◌∷◌, Option, None, Some, is_some, refl, sym, ◌∙◌, ap}
use Rattle.std.specs.Option.{option_or}
use Rattle.std.proofs.lemmas.Bool.Decides.{nat_tests}
use Rattle.fancy_tree.specs.Text.{Text}
use Rattle.fancy_template.specs.Templates.{Step}
use Rattle.fancy_template.specs.Expansions.{as_number}
use Rattle.fancy_template.specs.Checks.{TemplateGroups, TemplateFault, no_number, no_name, step_fault, fault_of_number, fault_of_numeral, fault_unless_named, fault_of_name, first_fault}

module _ (groups : TemplateGroups) where
  pub number_refused : (n : ℕ) → 0 < n → groups.has_names ≡ false → groups.count ≤ n → fault_of_number groups n ≡ Some (no_number n)
  number_refused n p h q =
      let a : (n == 0) ≡ false = grind (arith, nat_tests) in
      let b : nat_lt n groups.count ≡ false = grind (arith, nat_tests) in
      rw (a, h, b) refl

  pub name_refused : (w : Text) (o : Option ℕ) → o ≡ groups.group_named w → is_some o ≡ false → None ≡ as_number w → fault_of_name groups w ≡ Some (no_name w)
  name_refused w None e f g = ap (fault_unless_named groups w) (sym e) ∙ ap (fault_of_numeral groups w) (sym g)
  name_refused w (Some n) e f g = absurd (cc)

  -- a step that passes leaves the first fault to those after it
  pub fault_after : (left rest : List Step) (x : Step) → left ≡ x ∷ rest → step_fault groups x ≡ None → first_fault groups left ≡ first_fault groups rest
  fault_after left rest x e f = ap (first_fault groups) e ∙ ap (λ (z : Option TemplateFault). option_or z (first_fault groups rest)) f

  pub fault_here : (left rest : List Step) (x : Step) (fault : TemplateFault) → left ≡ x ∷ rest → step_fault groups x ≡ Some fault → first_fault groups left ≡ Some fault
  fault_here left rest x fault e f = ap (first_fault groups) e ∙ ap (λ (z : Option TemplateFault). option_or z (first_fault groups rest)) f
