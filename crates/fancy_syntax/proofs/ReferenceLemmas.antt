-- References, as they are written and as they are read.
use Rattle.std.proofs.Common.{◌≡◌, ℕ, ◌==◌, ◌||◌, ◌&&◌, not, nat_le, Bool, true, false, List, [], ◌∷◌, ◌++◌, length, drop, Some, None, refl, sym, ap, ◌∙◌, subst, inl, inr, cond, codes}
use Rattle.std.specs.List.{list_any}
use Rattle.std.specs.Char.{is_ascii_digit}
use Rattle.fancy_tree.specs.Pattern.{Pattern}
use Rattle.fancy_tree.specs.Text.{Text, ◌∈◌, is_among}
use Rattle.fancy_class.specs.Words.{is_at_any, is_at, begins}
use Rattle.fancy_syntax.specs.Counts.{is_at_digit, past_digits, decimal}
use Rattle.fancy_syntax.specs.Blanks.{past_blank}
use Rattle.fancy_tree.specs.Names.{name_here, past_name}
use Rattle.fancy_tree.specs.Limits.{largest_told}
use Rattle.fancy_syntax.specs.References.{Target, back, number_reference, distance_reference, name_reference, delimited_target, read_reference, begins_reference}
use Rattle.fancy_syntax.specs.Dialect.{Scope, lexeme, ReadsAtom, by_lexeme, by_class}
use Rattle.fancy_syntax.specs.Grammar.{ends_branch}
use Rattle.fancy_tree.proofs.Facts.{some_pair, some_is_none, true_is_false, chosen, char_is, both_true, left_of}
use Rattle.fancy_class.proofs.WordLemmas.{begins_with}
use Rattle.fancy_class.proofs.EndsLemmas.{Ends, ends_here, ends_drop, ends_then, ends_at, after_one}

-- ---- what follows a reference ends the text
ends_digits : (t : Text) → Ends t (past_digits t)
ends_digits [] = ends_here []
ends_digits (c ∷ t) = go (is_ascii_digit c) (ends_digits t)
  where
    go : (b : Bool) → Ends t (past_digits t) → Ends (c ∷ t) (cond {A = Text} b (past_digits t) (c ∷ t))
    go true e = after_one e
    go false e = ends_here (c ∷ t)

ends_by_digits : (t : Text) {w : Target} {u : Text} → number_reference t ≡ Some (w, u) → Ends t u
ends_by_digits t h =
    elim (chosen (is_at "123456789" t && nat_le (decimal t) largest_told) _ _ _ h) [
      | inl y ↦ ends_at (ends_digits t) (some_pair y.1).1
      | inr y ↦ absurd (some_is_none (sym y.1))
    ]

ends_by_distance : (opened c : ℕ) (t : Text) {w : Target} {u : Text} → distance_reference opened c t ≡ Some (w, u) → Ends t u
ends_by_distance opened c t h =
    elim (chosen (is_at_digit t && is_at_any (c ∷ []) (past_digits t)) _ _ _ h) [
      | inl y ↦ ends_at (ends_then (ends_digits t) (ends_drop 1 (past_digits t))) (some_pair y.1).1
      | inr y ↦ absurd (some_is_none (sym y.1))
    ]

ends_by_name : (c : ℕ) (t : Text) {w : Target} {u : Text} → name_reference c t ≡ Some (w, u) → Ends t u
ends_by_name c t h =
    elim (chosen ((length (name_here t) == 0) || not (is_at_any (c ∷ []) (past_name t))) _ _ _ h) [
      | inl y ↦ absurd (some_is_none (sym y.1))
      | inr y ↦ ends_at (ends_then (ends_drop (length (name_here t)) t) (ends_drop 1 (past_name t))) (some_pair y.1).1
    ]

ends_delimited : (opened c : ℕ) (t : Text) {w : Target} {u : Text} → delimited_target opened c t ≡ Some (w, u) → Ends t u
ends_delimited opened c t h =
    elim (chosen (is_at "-" t) _ _ _ h) [
      | inl y ↦ ends_then (ends_drop 1 t) (ends_by_distance opened c (drop 1 t) y.1)
      | inr y ↦ ends_by_name c t y.1
    ]

pub ends_reference : (opened : ℕ) (t : Text) {w : Target} {u : Text} → read_reference opened t ≡ Some (w, u) → Ends t u
ends_reference opened t h =
    elim (chosen (begins "\\k<" t) _ _ _ h) [
      | inl y ↦ ends_then (ends_drop 3 t) (ends_delimited opened 62 (drop 3 t) y.1)
      | inr y ↦ elim (chosen (begins "\\k'" t) _ _ _ y.1) [
        | inl z ↦ ends_then (ends_drop 3 t) (ends_delimited opened 39 (drop 3 t) z.1)
        | inr z ↦ elim (chosen (is_at "\\" t) _ _ _ z.1) [
          | inl v ↦ ends_then (ends_drop 1 t) (ends_by_digits (drop 1 t) v.1)
          | inr v ↦ absurd (some_is_none (sym v.1))
        ]
      ]
    ]

-- ---- where a reference may begin, nothing else does
any_more : (p : ℕ → Bool) (xs ys : List ℕ) → list_any p xs ≡ true → list_any p (xs ++ ys) ≡ true
any_more p [] ys h = cc
any_more p (x ∷ xs) ys h = go (p x) h (λ e. any_more p xs ys e)
  where
    go : (b : Bool) → (b || list_any p xs) ≡ true → (list_any p xs ≡ true → list_any p (xs ++ ys) ≡ true) → (b || list_any p (xs ++ ys)) ≡ true
    go true h more = refl
    go false h more = more h

digit_begins : (t : Text) → is_at "123456789" t ≡ true → is_at "123456789k" t ≡ true
digit_begins [] h = h
digit_begins (c ∷ t) h = any_more (λ d. d == c) (codes "123456789") (codes "k") h

pub reference_begins : (opened : ℕ) (t : Text) {w : Target} {u : Text} → read_reference opened t ≡ Some (w, u) → begins_reference t ≡ true
reference_begins opened t h =
    elim (chosen (begins "\\k<" t) _ _ _ h) [
      | inl y ↦ subst (λ v. begins_reference v ≡ true) (sym (begins_with (codes "\\k<") t y.0)) refl
      | inr y ↦ elim (chosen (begins "\\k'" t) _ _ _ y.1) [
        | inl z ↦ subst (λ v. begins_reference v ≡ true) (sym (begins_with (codes "\\k'") t z.0)) refl
        | inr z ↦ elim (chosen (is_at "\\" t) _ _ _ z.1) [
          | inl v ↦ at_digit v.0 v.1
          | inr v ↦ absurd (some_is_none (sym v.1))
        ]
      ]
    ]
  where
    at_digit : {w : Target} {u : Text} → is_at "\\" t ≡ true → number_reference (drop 1 t) ≡ Some (w, u) → begins_reference t ≡ true
    at_digit e k =
        elim (chosen (is_at "123456789" (drop 1 t) && nat_le (decimal (drop 1 t)) largest_told) _ _ _ k) [
          | inl y ↦ rw (e, digit_begins (drop 1 t) (both_true (is_at "123456789" (drop 1 t)) (nat_le (decimal (drop 1 t)) largest_told) y.0).0) refl
          | inr y ↦ absurd (some_is_none (sym y.1))
        ]

abbrev AllOf : (ℕ → Type 0) → List ℕ → Type 0
AllOf P [] = Unit {0}
AllOf P (c ∷ cs) = P c × AllOf P cs

-- what holds of each of these characters holds of one of them
of_one : (P : ℕ → Type 0) (cs : List ℕ) (c : ℕ) → is_among c cs ≡ true → AllOf P cs → P c
of_one P [] c h all = absurd (true_is_false (sym h))
of_one P (d ∷ cs) c h (first, rest) = go (d == c) refl h (λ e. of_one P cs c e rest)
  where
    go : (b : Bool) → (d == c) ≡ b → (b || is_among c cs) ≡ true → (is_among c cs ≡ true → P c) → P c
    go true e h other = subst P (sym (char_is d c e)) first
    go false e h other = other h

-- what holds of a backslash, each character that may follow it in a reference, and a text, holds where a reference may begin
where_begun : (P : Text → Type 0) (t : Text) → begins_reference t ≡ true → ((v : Text) → AllOf (λ c. P (92 ∷ c ∷ v)) (codes "123456789k")) → P t
where_begun P [] h all = absurd (true_is_false (sym h))
where_begun P (c ∷ []) h all = absurd (true_is_false (sym (both_true (is_at "\\" (c ∷ [])) false h).1))
where_begun P (c ∷ d ∷ v) h all =
    let b = both_true (is_at "\\" (c ∷ d ∷ v)) (d ∈ "123456789k") h in
    subst (λ x. P (x ∷ d ∷ v)) (sym (char_is 92 c (left_of (92 == c) false b.0 refl))) (of_one (λ x. P (92 ∷ x ∷ v)) (codes "123456789k") d b.1 (all v))

pub no_lexeme_begun : (s : Scope) (t : Text) → begins_reference t ≡ true → lexeme s t ≡ None
no_lexeme_begun s t h = where_begun (λ x. lexeme s x ≡ None) t h (λ v. (refl, (refl, (refl, (refl, (refl, (refl, (refl, (refl, (refl, (refl, tt)))))))))))

same_for_all : (P : Text → Type 0) → ((c : ℕ) (v : Text) → P (92 ∷ c ∷ v)) → (t : Text) → begins_reference t ≡ true → P t
same_for_all P all t h = where_begun P t h (λ v. (all 49 v, (all 50 v, (all 51 v, (all 52 v, (all 53 v, (all 54 v, (all 55 v, (all 56 v, (all 57 v, (all 107 v, tt)))))))))))

pub no_bracket_begun : (t : Text) → begins_reference t ≡ true → is_at "[" t ≡ false
no_bracket_begun = same_for_all (λ x. is_at "[" x ≡ false) (λ c v. refl)

pub no_paren_begun : (t : Text) → begins_reference t ≡ true → is_at "(" t ≡ false
no_paren_begun = same_for_all (λ x. is_at "(" x ≡ false) (λ c v. refl)

pub no_end_begun : (t : Text) → begins_reference t ≡ true → ends_branch t ≡ false
no_end_begun = same_for_all (λ x. ends_branch x ≡ false) (λ c v. refl)

pub no_blank_begun : (ignore_blanks : Bool) (t : Text) → begins_reference t ≡ true → past_blank ignore_blanks t ≡ None
no_blank_begun ignore_blanks = same_for_all (λ x. past_blank ignore_blanks x ≡ None) (λ c v. refl)

pub no_atom_begun : {s : Scope} {t u : Text} {a : Pattern} → begins_reference t ≡ true → ReadsAtom s t a u → ⊥
no_atom_begun {s} {t} h (by_lexeme k m) = some_is_none (sym k ∙ no_lexeme_begun s t h)
no_atom_begun {t = t} h (by_class k m) = true_is_false (sym k ∙ no_bracket_begun t h)

-- ---- how many groups were opened before it changes nothing but what a reference names
distance_any : (opened n c : ℕ) (t : Text) {w : Target} {u : Text} → distance_reference opened c t ≡ Some (w, u) → (v : Target) × (distance_reference n c t ≡ Some (v, u))
distance_any opened n c t h =
    elim (chosen (is_at_digit t && is_at_any (c ∷ []) (past_digits t)) _ _ _ h) [
      | inl y ↦ (back n (decimal t), rw y.0 (ap (λ (x : Text). Some (back n (decimal t), x)) (some_pair y.1).1))
      | inr y ↦ absurd (some_is_none (sym y.1))
    ]

delimited_any : (opened n c : ℕ) (t : Text) {w : Target} {u : Text} → delimited_target opened c t ≡ Some (w, u) → (v : Target) × (delimited_target n c t ≡ Some (v, u))
delimited_any opened n c t {w} h =
    elim (chosen (is_at "-" t) _ _ _ h) [
      | inl y ↦ (let r = distance_any opened n c (drop 1 t) y.1 in (r.0, rw y.0 r.1))
      | inr y ↦ (w, rw y.0 y.1)
    ]

pub reference_any : (opened n : ℕ) (t : Text) {w : Target} {u : Text} → read_reference opened t ≡ Some (w, u) → (v : Target) × (read_reference n t ≡ Some (v, u))
reference_any opened n t {w} h =
    elim (chosen (begins "\\k<" t) _ _ _ h) [
      | inl y ↦ (let r = delimited_any opened n 62 (drop 3 t) y.1 in (r.0, rw y.0 r.1))
      | inr y ↦ elim (chosen (begins "\\k'" t) _ _ _ y.1) [
        | inl z ↦ (let r = delimited_any opened n 39 (drop 3 t) z.1 in (r.0, rw (y.0, z.0) r.1))
        | inr z ↦ (w, rw (y.0, z.0) z.1)
      ]
    ]
