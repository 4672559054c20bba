-- Lemmas on texts of digits.
use Rattle.std.proofs.Common.{ℕ, ◌≡◌, ◌&&◌, Bool, true, false, List, [], ◌∷◌, None, Some, Result, Ok, Err, MatchResult, refl, sym, ◌∙◌, ap, chars, IsUtf8}
use Rattle.std.specs.List.{list_all}
use Rattle.std.specs.Char.{is_ascii_digit}
use Rattle.std.specs.Str.Parse.{ParsesUnsigned}
use Rattle.fancy_tree.specs.Text.{Text}
use Rattle.fancy_template.specs.Templates.{row, fitting}
use Rattle.fancy_template.specs.Expansions.{as_number}
use Rattle.fancy_template.proofs.FormLemmas.{row_parsed}

whole_row_at : (p : ℕ → Bool) (c : ℕ) (t : Text) (b : Bool) → p c ≡ b → (b && list_all p t) ≡ true → (list_all p t ≡ true → row p t ≡ t) → row p (c ∷ t) ≡ c ∷ t
whole_row_at p c t true e h r = rw e (ap (λ (z : Text). c ∷ z) (r h))
whole_row_at p c t false e h r = absurd (cc)

-- where all characters pass, the row is the whole text
whole_row : (p : ℕ → Bool) (t : Text) → list_all p t ≡ true → row p t ≡ t
whole_row p [] e = refl
whole_row p (c ∷ t) e = whole_row_at p c t (p c) refl e (whole_row p t)

-- what `parse` makes of digits
pub digits_parsed : {E : Type 0} (d : List ℕ) (r : Result ℕ E) → IsUtf8 d → list_all is_ascii_digit (chars d) ≡ true → ParsesUnsigned 64 10 d r → MatchResult r (λ n. Some n ≡ as_number (chars d)) (λ e. None ≡ as_number (chars d))
digits_parsed {E} d r u a h = by r (row_parsed {E = E} (chars d) d r u (sym (whole_row is_ascii_digit (chars d) a)) h)
  where
    by : (r : Result ℕ E) → MatchResult r (λ n. fitting (row is_ascii_digit (chars d)) ≡ Some n) (λ e. fitting (row is_ascii_digit (chars d)) ≡ None) → MatchResult r (λ n. Some n ≡ as_number (chars d)) (λ e. None ≡ as_number (chars d))
    by (Ok n) f = rw a (sym (ap fitting (sym (whole_row is_ascii_digit (chars d) a)) ∙ f))
    by (Err e) f = rw a (sym (ap fitting (sym (whole_row is_ascii_digit (chars d) a)) ∙ f))
