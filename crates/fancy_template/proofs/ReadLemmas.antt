-- What each form after a mark is read as, by how it is written.
use Rattle.std.proofs.Common.{arith, ℕ, ◌<◌, ◌^◌, ◌≡◌, ◌&&◌, Bool, true, false, [], ◌∷◌, ◌++◌, Some, length, drop, refl, sym, ◌∙◌, ap, option_map, append-nil}
use Rattle.std.specs.List.{list_all}
use Rattle.std.specs.Char.{is_ascii_digit}
use Rattle.std.specs.Str.Parse.{digits_value}
use Rattle.std.proofs.Math.Seq.{drop-append_seam}
use Rattle.fancy_tree.specs.Text.{Text}
use Rattle.fancy_template.specs.Templates.{TemplateSyntax, literal, name, number, steps, name_in_delimiters, undelimited, number_form, begins_with, is_name_character, is_empty_text, row, past_row, fitting, IsRow}
use Rattle.fancy_template.specs.Expanders.{form_in}
use Rattle.fancy_template.proofs.RowLemmas.{begins_is}
use Rattle.fancy_template.proofs.FormLemmas.{not_opened, named, no_bare_names, bare_name, a_number, a_delimited, an_undelimited, at_last, both_hold}
use Rattle.fancy_template.proofs.TemplateLemmas.{steps_formed, read_forms}
use Rattle.fancy_template.proofs.MarkLemmas.{twice}

both : (a b : Bool) → (a && b) ≡ true → (a ≡ true) × (b ≡ true)
both true b e = (refl, e)
both false b e = absurd (cc)

row_along : (p : ℕ → Bool) (w after : Text) → list_all p w ≡ true → row p (w ++ after) ≡ w ++ row p after
row_along p [] after e = refl
row_along p (c ∷ w) after e = let k = both (p c) (list_all p w) e in rw k.0 (ap (λ (z : Text). c ∷ z) (row_along p w after k.1))

module _ (p : ℕ → Bool) (w after : Text) (h : IsRow p w after) where
  row_is : row p (w ++ after) ≡ w
  row_is = row_along p w after h.all ∙ ap (λ (z : Text). w ++ z) h.ends ∙ append-nil w

  past_is : past_row p (w ++ after) ≡ after
  past_is = rw row_is (drop-append_seam w after)

  some_is : is_empty_text (row p (w ++ after)) ≡ false
  some_is = rw row_is h.some

pub doubled_is_read : (s : TemplateSyntax) (t : Text) → steps s (s.mark ∷ s.mark ∷ t) ≡ literal s.mark ∷ steps s t
doubled_is_read s t = steps_formed s _ (s.mark ∷ t) (twice s t)

pub delimited_is_read : (s : TemplateSyntax) (w t : Text) → IsRow is_name_character w (s.closing ++ t) → begins_with (s.mark ∷ []) (s.opening ++ (w ++ (s.closing ++ t))) ≡ false → steps s (s.mark ∷ (s.opening ++ (w ++ (s.closing ++ t)))) ≡ name w ∷ steps s t
delimited_is_read s w t h m =
    let inside : Text = w ++ (s.closing ++ t) in
    let all : Text = s.opening ++ inside in
    let past : past_row is_name_character inside ≡ s.closing ++ t = past_is is_name_character w (s.closing ++ t) h in
    let closes : begins_with s.closing (past_row is_name_character inside) ≡ true = (begins_is s.closing (past_row is_name_character inside)).1 t past in
    let rest : t ≡ drop (length s.closing) (past_row is_name_character inside) = sym (ap (λ (z : Text). drop (length s.closing) z) past ∙ drop-append_seam s.closing t) in
    let read : Some (name w, t) ≡ option_map (form_in all) (name_in_delimiters s all) =
    named s all ((begins_is s.opening all).1 inside refl) inside (sym (drop-append_seam s.opening inside)) (some_is is_name_character w (s.closing ++ t) h) closes w t (sym (row_is is_name_character w (s.closing ++ t) h)) rest in
    read_forms s all (name w, t) (sym (a_delimited s all m (name w, t) read))

pub undelimited_is_read : (s : TemplateSyntax) (w t : Text) → IsRow is_name_character w t → s.undelimited ≡ true → begins_with (s.mark ∷ []) (w ++ t) ≡ false → begins_with s.opening (w ++ t) ≡ false → steps s (s.mark ∷ (w ++ t)) ≡ name w ∷ steps s t
undelimited_is_read s w t h u m o =
    let read : Some (name w, t) ≡ option_map (form_in (w ++ t)) (undelimited s (w ++ t)) =
    bare_name s (w ++ t) u (some_is is_name_character w t h) w t (sym (row_is is_name_character w t h)) (sym (past_is is_name_character w t h)) in
    read_forms s (w ++ t) (name w, t) (sym (an_undelimited s (w ++ t) m (not_opened s (w ++ t) o) (name w, t) read))

fits_now : (w : Text) → is_empty_text w ≡ false → digits_value 10 w < 2 ^ 64 → fitting w ≡ Some (digits_value 10 w)
unfolding fitting
fits_now [] e h = absurd (cc)
fits_now (c ∷ w) e h = rw (both_hold (length (c ∷ w)) (digits_value 10 (c ∷ w)) (2 ^ 64) (omega arith) h) refl

pub digits_are_read : (s : TemplateSyntax) (w t : Text) → IsRow is_ascii_digit w t → s.undelimited ≡ false → begins_with (s.mark ∷ []) (w ++ t) ≡ false → begins_with s.opening (w ++ t) ≡ false → digits_value 10 w < 2 ^ 64 → steps s (s.mark ∷ (w ++ t)) ≡ number (digits_value 10 w) ∷ steps s t
digits_are_read s w t h u m o b =
    let fits : fitting (row is_ascii_digit (w ++ t)) ≡ Some (digits_value 10 w) = rw (row_is is_ascii_digit w t h) (fits_now w h.some b) in
    let read : Some (number (digits_value 10 w), t) ≡ option_map (form_in (w ++ t)) (number_form (w ++ t)) = a_number (w ++ t) (digits_value 10 w) t fits (sym (past_is is_ascii_digit w t h)) in
    read_forms s (w ++ t) (number (digits_value 10 w), t) (sym (at_last s (w ++ t) m (not_opened s (w ++ t) o) (no_bare_names s (w ++ t) u) (Some (number (digits_value 10 w), t)) read))
