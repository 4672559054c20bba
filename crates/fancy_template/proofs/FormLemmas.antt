-- Lemmas on the forms that may stand after a mark.
use Rattle.std.proofs.Common.{arith, ℕ, zero, suc, ◌+◌, ◌<◌, ◌≤◌, ◌≡◌, ◌==◌, ◌^◌, ◌&&◌, Bool, true, false, not, nat_lt, List, [], ◌∷◌, Option, None, Some, Result, Ok, Err, length, drop, refl, sym, ◌∙◌, ap, option_map, if◌then◌else◌, IsAscii, chars, IsUtf8, OkIff, encode_utf8_all, MatchResult, lit<}
use Rattle.std.specs.Option.{option_or}
use Rattle.std.specs.Char.{is_ascii_digit}
use Rattle.std.specs.Int.{IsInRange}
use Rattle.std.specs.Str.{all_ascii_digits}
use Rattle.std.specs.Str.Parse.{digits_value, ParsesUnsigned}
use Rattle.std.proofs.lemmas.Str.Parse.{IsNumeralModel, numerals_by_value, tells_all_ascii_digits, parse_digits}
use Rattle.std.proofs.lemmas.Str.{encodes-chars, encodes-IsAscii}
use Rattle.std.proofs.lemmas.Bool.Decides.{nat_tests}
use Rattle.std.proofs.lemmas.List.{drop-drop}
use Rattle.fancy_tree.specs.Text.{Text}
use Rattle.fancy_template.specs.Templates.{TemplateSyntax, Step, literal, name, number, Form, form, doubled, name_in_delimiters, undelimited, number_form, begins_with, is_name_character, is_empty_text, row, past_row, fitting}
use Rattle.fancy_template.specs.Expanders.{form_in}

-- where the row of a name is what stands inside, and r what follows the closing delimiter
module _ (s : TemplateSyntax) (t : Text) where
  pub not_opened : begins_with s.opening t ≡ false → None ≡ option_map (form_in t) (name_in_delimiters s t)
  unfolding name_in_delimiters
  not_opened o = rw o refl

  pub no_name : begins_with s.opening t ≡ true → (inside : Text) → inside ≡ drop (length s.opening) t → is_empty_text (row is_name_character inside) ≡ true → None ≡ option_map (form_in t) (name_in_delimiters s t)
  unfolding name_in_delimiters
  no_name o inside e n = let k : is_empty_text (row is_name_character (drop (length s.opening) t)) ≡ true = rw (← e) n in rw (o, k) refl

  pub not_closed : begins_with s.opening t ≡ true → (inside : Text) → inside ≡ drop (length s.opening) t → is_empty_text (row is_name_character inside) ≡ false → begins_with s.closing (past_row is_name_character inside) ≡ false → None ≡ option_map (form_in t) (name_in_delimiters s t)
  unfolding name_in_delimiters
  not_closed o inside e n b =
      let k : is_empty_text (row is_name_character (drop (length s.opening) t)) ≡ false = rw (← e) n in
      let l : begins_with s.closing (past_row is_name_character (drop (length s.opening) t)) ≡ false = rw (← e) b in
      rw (o, k, l) refl

  after_name : (w : Text) (n : ℕ) → drop (length s.closing) (drop n (drop (length s.opening) t)) ≡ drop (length s.opening + (n + length s.closing)) t
  after_name w n = ap (drop (length s.closing)) (drop-drop n (length s.opening) t) ∙ drop-drop (length s.closing) (length s.opening + n) t ∙ ap (λ (z : ℕ). drop z t) (omega arith)

  pub named : begins_with s.opening t ≡ true → (inside : Text) → inside ≡ drop (length s.opening) t → is_empty_text (row is_name_character inside) ≡ false → begins_with s.closing (past_row is_name_character inside) ≡ true
      → (w r : Text) → w ≡ row is_name_character inside → r ≡ drop (length s.closing) (past_row is_name_character inside) → Some (name w, r) ≡ option_map (form_in t) (name_in_delimiters s t)
  unfolding name_in_delimiters
  named o inside e n b w r ew er =
      let k : is_empty_text (row is_name_character (drop (length s.opening) t)) ≡ false = rw (← e) n in
      let l : begins_with s.closing (past_row is_name_character (drop (length s.opening) t)) ≡ true = rw (← e) b in
      rw (er, ew, e, o, k, l, after_name [] (length (row is_name_character (drop (length s.opening) t)))) refl

  pub no_bare_names : s.undelimited ≡ false → None ≡ option_map (form_in t) (undelimited s t)
  no_bare_names u = rw u refl

  pub no_bare_name : s.undelimited ≡ true → is_empty_text (row is_name_character t) ≡ true → None ≡ option_map (form_in t) (undelimited s t)
  no_bare_name u n = rw (u, n) refl

  pub bare_name : s.undelimited ≡ true → is_empty_text (row is_name_character t) ≡ false → (w r : Text) → w ≡ row is_name_character t → r ≡ past_row is_name_character t → Some (name w, r) ≡ option_map (form_in t) (undelimited s t)
  bare_name u n w r ew er = rw (er, ew, u, n) refl

-- digits
row_digits_at : (c : ℕ) (t : Text) (b : Bool) → is_ascii_digit c ≡ b → all_ascii_digits (row is_ascii_digit t) ≡ true → all_ascii_digits (if b then c ∷ row is_ascii_digit t else []) ≡ true
row_digits_at c t true e h = rw (e, h) refl
row_digits_at c t false e h = refl

row_digits : (t : Text) → all_ascii_digits (row is_ascii_digit t) ≡ true
row_digits [] = refl
row_digits (c ∷ t) = row_digits_at c t (is_ascii_digit c) refl (row_digits t)

abbrev own : IsNumeralModel (λ ds. all_ascii_digits ds ≡ true) (digits_value 10)
own = numerals_by_value (λ ds. all_ascii_digits ds ≡ true) tells_all_ascii_digits

ascii_digits : (ds : Text) → all_ascii_digits ds ≡ true → IsAscii ds
ascii_digits [] e i = lit< tt
ascii_digits (d ∷ ds) e zero = let k : IsInRange 48 57 d = (tells_all_ascii_digits.parts d ds e).0 in omega (arith, k.0, k.1)
ascii_digits (d ∷ ds) e (suc i) = ascii_digits ds (tells_all_ascii_digits.parts d ds e).1 i

pub both_hold : (n v m : ℕ) → 0 < n → v < m → (not (n == 0) && nat_lt v m) ≡ true
both_hold n v m a b = grind (arith, nat_tests)

one_fails : (n v m : ℕ) → ((0 < n) × (v < m) → ⊥) → (not (n == 0) && nat_lt v m) ≡ false
one_fails zero v m h = refl
one_fails (suc n) v m h = let k : m ≤ v = below v m (λ b. h (omega arith, b)) in grind (arith, nat_tests)
  where
    below : (v m : ℕ) → (v < m → ⊥) → m ≤ v
    below v m h = omega (arith, h)

fits : {E : Type 0} (w : Text) (r : Result ℕ E) → OkIff r ((0 < length w) × (digits_value 10 w < 2 ^ 64)) (digits_value 10 w) → MatchResult r (λ n. fitting w ≡ Some n) (λ e. fitting w ≡ None)
unfolding fitting
fits w (Ok n) h = rw (both_hold (length w) (digits_value 10 w) (2 ^ 64) h.0.0 h.0.1) (ap Some (sym h.1))
fits w (Err e) h = rw (one_fails (length w) (digits_value 10 w) (2 ^ 64) h) refl

-- what `parse` makes of a row of digits
pub row_parsed : {E : Type 0} (t : Text) (d : List ℕ) (r : Result ℕ E) → IsUtf8 d → chars d ≡ row is_ascii_digit t → ParsesUnsigned 64 10 d r → MatchResult r (λ n. fitting (row is_ascii_digit t) ≡ Some n) (λ e. fitting (row is_ascii_digit t) ≡ None)
row_parsed t d r u k h =
    let same : d ≡ row is_ascii_digit t = sym (encodes-chars d u) ∙ ap encode_utf8_all k ∙ encodes-IsAscii (row is_ascii_digit t) (ascii_digits (row is_ascii_digit t) (row_digits t)) in
    let all : all_ascii_digits d ≡ true = ap all_ascii_digits same ∙ row_digits t in
    let ok : OkIff r ((0 < length d) × (digits_value 10 d < 2 ^ 64)) (digits_value 10 d) = parse_digits own 64 d r h all in
    fits (row is_ascii_digit t) r (rw (← same) ok)

pub a_number : (t : Text) (n : ℕ) (r : Text) → fitting (row is_ascii_digit t) ≡ Some n → r ≡ past_row is_ascii_digit t → Some (number n, r) ≡ option_map (form_in t) (number_form t)
a_number t n r f e = rw (e, f) refl

pub no_number : (t : Text) → fitting (row is_ascii_digit t) ≡ None → None ≡ option_map (form_in t) (number_form t)
no_number t f = rw f refl

-- the first form that fits
module _ (v : Form → Step × Text) where
  is_first : (a b : Option Form) (x : Step × Text) → Some x ≡ option_map v a → Some x ≡ option_map v (option_or a b)
  is_first None b x e = absurd (cc)
  is_first (Some f) b x e = e

  is_later : (a b : Option Form) (x : Option (Step × Text)) → None ≡ option_map v a → x ≡ option_map v b → x ≡ option_map v (option_or a b)
  is_later None b x e f = f
  is_later (Some f) b x e g = absurd (cc)

module _ (s : TemplateSyntax) (t : Text) where
  pub a_mark : begins_with (s.mark ∷ []) t ≡ true → (r : Text) → r ≡ drop 1 t → Some (literal s.mark, r) ≡ option_map (form_in t) (form s t)
  unfolding form
  a_mark b r e = rw (b, e) refl

  not_doubled : begins_with (s.mark ∷ []) t ≡ false → None ≡ option_map (form_in t) (doubled s t)
  not_doubled b = rw b refl

  pub a_delimited : begins_with (s.mark ∷ []) t ≡ false → (x : Step × Text) → Some x ≡ option_map (form_in t) (name_in_delimiters s t) → Some x ≡ option_map (form_in t) (form s t)
  unfolding form
  a_delimited b x e = is_later (form_in t) (doubled s t) _ (Some x) (not_doubled b) (is_first (form_in t) (name_in_delimiters s t) _ x e)

  pub an_undelimited : begins_with (s.mark ∷ []) t ≡ false → None ≡ option_map (form_in t) (name_in_delimiters s t) → (x : Step × Text) → Some x ≡ option_map (form_in t) (undelimited s t) → Some x ≡ option_map (form_in t) (form s t)
  unfolding form
  an_undelimited b d x e = is_later (form_in t) (doubled s t) _ (Some x) (not_doubled b) (is_later (form_in t) (name_in_delimiters s t) _ (Some x) d (is_first (form_in t) (undelimited s t) _ x e))

  pub at_last : begins_with (s.mark ∷ []) t ≡ false → None ≡ option_map (form_in t) (name_in_delimiters s t) → None ≡ option_map (form_in t) (undelimited s t) → (x : Option (Step × Text)) → x ≡ option_map (form_in t) (number_form t) → x ≡ option_map (form_in t) (form s t)
  unfolding form
  at_last b d u x e = is_later (form_in t) (doubled s t) _ x (not_doubled b) (is_later (form_in t) (name_in_delimiters s t) _ x d (is_later (form_in t) (undelimited s t) _ x u e))
