-- Blanks and comments: what is skipped is what the dialect calls a row of them.
use Rattle.std.proofs.Common.{◌≡◌, ℕ, zero, suc, ◌<◌, ◌≤◌, ◌==◌, ◌||◌, ◌&&◌, Bool, true, false, [], ◌∷◌, ◌++◌, Option, Some, None, drop, length, refl, sym, ap, ◌∙◌, subst, append_assoc, append-nil, arith, ◌⊎◌, inl, inr, cond, codes, length-append}
use Rattle.std.proofs.lemmas.Bool.Decides.{nat_tests}
use Rattle.fancy_tree.specs.Text.{Text, is_among}
use Rattle.fancy_class.specs.Words.{is_at, begins}
use Rattle.fancy_syntax.specs.Blanks.{is_blank, past_line, past_comment, past_blank}
use Rattle.fancy_syntax.specs.Counts.{begins_count}
use Rattle.fancy_syntax.specs.Grammar.{text_or, past_blanks_in, past_blanks, ends_branch}
use Rattle.fancy_syntax.specs.Dialect.{Blank, comment, blank, line, last_line, Blanks, no_blank, blanks, begins_quantifier, IsUnquantified}
use Rattle.fancy_tree.proofs.Facts.{true_is_false, some_is_none, either_no, both_true, chosen, same_some, char_is}
use Rattle.fancy_class.proofs.WordLemmas.{begins_with}

line_shorter : (t : Text) → length (past_line t) ≤ length t
line_shorter [] = omega arith
line_shorter (c ∷ t) = go (c == 10) (line_shorter t)
  where
    go : (b : Bool) → length (past_line t) ≤ length t → length (cond b t (past_line t)) ≤ length (c ∷ t)
    go true h = omega arith
    go false h = omega (arith, h)

comment_shorter : (t u : Text) → past_comment t ≡ Some u → length u < length t
comment_shorter [] u h = absurd (some_is_none (sym h))
comment_shorter (c ∷ t) u h = go (c == 41) h (λ e. comment_shorter t u e)
  where
    go : (b : Bool) → cond b (Some t) (past_comment t) ≡ Some u → (past_comment t ≡ Some u → length u < length t) → length u < length (c ∷ t)
    go true e f = let same : t ≡ u = same_some e in omega (arith, ap (length {A = ℕ}) same)
    go false e f = omega (arith, f e)

pub blank_shorter : (x : Bool) (t u : Text) → past_blank x t ≡ Some u → length u < length t
blank_shorter x [] u h = absurd (some_is_none (sym h))
blank_shorter x (c ∷ t) u h =
    elim (chosen (is_blank c && x) _ _ _ h) [
      | inl y ↦ (let same : t ≡ u = same_some y.1 in omega (arith, ap (length {A = ℕ}) same))
      | inr y ↦ elim (chosen ((35 == c) && x) _ _ _ y.1) [
        | inl z ↦ (let same : past_line t ≡ u = same_some z.1 in omega (arith, ap (length {A = ℕ}) same, line_shorter t))
        | inr z ↦ elim (chosen (begins "(?#" (c ∷ t)) _ _ _ z.1) [
          | inl w ↦ shorter_still t u w.1
          | inr w ↦ absurd (some_is_none (sym w.1))
        ]
      ]
    ]
  where
    shorter_still : (t u : Text) → past_comment (drop 2 t) ≡ Some u → length u < length (c ∷ t)
    shorter_still [] u e = absurd (some_is_none (sym e))
    shorter_still (a ∷ []) u e = absurd (some_is_none (sym e))
    shorter_still (a ∷ b ∷ t) u e = omega (arith, comment_shorter t u e)

-- with enough of them gone through, one more changes nothing
enough : (n m : ℕ) (x : Bool) (t : Text) → length t ≤ n → length t ≤ m → past_blanks_in n x t ≡ past_blanks_in m x t
unfolding past_blanks_in
enough zero zero x t h f = refl
enough zero (suc m) x [] h f = refl
enough zero (suc m) x (c ∷ t) h f = absurd (omega (arith, h))
enough (suc n) zero x [] h f = refl
enough (suc n) zero x (c ∷ t) h f = absurd (omega (arith, f))
enough (suc n) (suc m) x t h f = go (past_blank x t) refl (λ u l. enough n m x u (omega (arith, l, h)) (omega (arith, l, f)))
  where
    go : (o : Option Text) → past_blank x t ≡ o → ((u : Text) → length u < length t → past_blanks_in n x u ≡ past_blanks_in m x u) → text_or (past_blanks_in n x) t o ≡ text_or (past_blanks_in m x) t o
    go None e g = refl
    go (Some u) e g = g u (blank_shorter x t u e)

one_more : (n : ℕ) (x : Bool) (t u : Text) → past_blank x t ≡ Some u → past_blanks_in (suc n) x t ≡ past_blanks_in n x u
unfolding past_blanks_in
one_more n x t u h = ap (text_or (past_blanks_in n x) t) h

pub blanks_step : (x : Bool) (t u : Text) → past_blank x t ≡ Some u → past_blanks x t ≡ past_blanks x u
blanks_step x t u h = enough (length t) (suc (length t)) x t (omega arith) (omega arith) ∙ (one_more (length t) x t u h ∙ enough (length t) (length u) x u (omega (arith, blank_shorter x t u h)) (omega arith))

pub blanks_stop : (x : Bool) (t : Text) → past_blank x t ≡ None → past_blanks x t ≡ t
unfolding past_blanks_in
blanks_stop x t h = enough (length t) (suc (length t)) x t (omega arith) (omega arith) ∙ ap (text_or (past_blanks_in (length t) x) t) h

-- what is skipped is spelled
no_more : (a b : Bool) → a ≡ false → b ≡ false → (a || b) ≡ false
no_more true b h f = h
no_more false b h f = f

record LineOf (t : Text) : Type 0 where
  inside : Text
  lacks : is_among 10 inside ≡ false
  is : (t ≡ inside ++ (10 ∷ past_line t)) ⊎ ((t ≡ inside) × (past_line t ≡ []))

line_of : (t : Text) → LineOf t
line_of [] = record { inside = []; lacks = refl; is = inr (refl, refl) }
line_of (c ∷ t) = go (c == 10) refl (line_of t)
  where
    go : (b : Bool) → (c == 10) ≡ b → LineOf t → LineOf (c ∷ t)
    go true e r = let same : c ≡ 10 = grind (arith, nat_tests) in record { inside = []; lacks = refl; is = rw e (inl (ap (λ d. d ∷ t) same)) }
    go false e r = record {
      inside = c ∷ r.inside;
      lacks = no_more (c == 10) (is_among 10 r.inside) e r.lacks;
      is = rw e (elim r.is [ inl h ↦ inl (ap (λ l. c ∷ l) h) | inr h ↦ inr (ap (λ l. c ∷ l) h.0, h.1) ]);
    }

comment_of : (t u : Text) → past_comment t ≡ Some u → (inside : Text) × ((is_among 41 inside ≡ false) × (t ≡ inside ++ (41 ∷ u)))
comment_of [] u h = absurd (some_is_none (sym h))
comment_of (c ∷ t) u h = go (c == 41) refl h (λ e. comment_of t u e)
  where
    go : (b : Bool) → (c == 41) ≡ b → cond b (Some t) (past_comment t) ≡ Some u → (past_comment t ≡ Some u → (inside : Text) × ((is_among 41 inside ≡ false) × (t ≡ inside ++ (41 ∷ u))))
        → (inside : Text) × ((is_among 41 inside ≡ false) × (c ∷ t ≡ inside ++ (41 ∷ u)))
    go true e f g = let same : c ≡ 41 = grind (arith, nat_tests) in let rest : t ≡ u = same_some f in ([], (refl, ap (λ d. d ∷ t) same ∙ ap (λ l. 41 ∷ l) rest))
    go false e f g = let r = g f in (c ∷ r.0, (no_more (c == 41) (is_among 41 r.0) e r.1.0, ap (λ l. c ∷ l) r.1.1))

one_blank : (x : Bool) (t u : Text) → past_blank x t ≡ Some u → (w : Text) × ((t ≡ w ++ u) × Blank x w u)
one_blank x [] u h = absurd (some_is_none (sym h))
one_blank x (c ∷ t) u h =
    elim (chosen (is_blank c && x) _ _ _ h) [
      | inl y ↦ (let b = both_true (is_blank c) x y.0 in (c ∷ [], (ap (λ l. c ∷ l) (same_some y.1), subst (λ z. Blank z (c ∷ []) u) (sym b.1) (blank c b.0))))
      | inr y ↦ elim (chosen ((35 == c) && x) _ _ _ y.1) [
        | inl z ↦ (let b = both_true (35 == c) x z.0 in in_a_line (char_is 35 c b.0) b.1 (same_some z.1) (line_of t))
        | inr z ↦ elim (chosen (begins "(?#" (c ∷ t)) _ _ _ z.1) [
          | inl w ↦
              let is : c ∷ t ≡ 40 ∷ 63 ∷ 35 ∷ drop 3 (c ∷ t) = begins_with (codes "(?#") (c ∷ t) w.0 in
              let r = comment_of (drop 2 t) u w.1 in
              (codes "(?#" ++ (r.0 ++ codes ")"), (is ∙ ap (λ l. 40 ∷ 63 ∷ 35 ∷ l) (r.1.1 ∙ sym (append_assoc r.0 (41 ∷ []) u)), comment r.0 r.1.0))
          | inr w ↦ absurd (some_is_none (sym w.1))
        ]
      ]
    ]
  where
    in_a_line : c ≡ 35 → x ≡ true → past_line t ≡ u → LineOf t → (w : Text) × ((c ∷ t ≡ w ++ u) × Blank x w u)
    in_a_line e f g r =
        elim r.is [
          | inl h ↦
              (35 ∷ (r.inside ++ 10 ∷ []), (ap (λ d. d ∷ t) e ∙ ap (λ l. 35 ∷ l) (h ∙ (ap (λ l. r.inside ++ 10 ∷ l) g ∙ sym (append_assoc r.inside (10 ∷ []) u))), subst (λ z. Blank z (35 ∷ (r.inside ++ 10 ∷ [])) u) (sym f) (line r.inside r.lacks)))
          | inr h ↦
              (let none : u ≡ [] = sym g ∙ h.1 in
              (35 ∷ r.inside, (ap (λ d. d ∷ t) e ∙ (ap (λ l. 35 ∷ l) (h.0 ∙ sym (append-nil r.inside)) ∙ ap (λ l. 35 ∷ (r.inside ++ l)) (sym none)), subst (λ v. Blank x (35 ∷ r.inside) v) (sym none) (subst (λ z. Blank z (35 ∷ r.inside) []) (sym f) (last_line r.inside r.lacks)))))
        ]

-- what is skipped, and what is left
pub record Skipped (x : Bool) (t left : Text) : Type 0 where
  pub row : Text
  pub is : t ≡ row ++ left
  pub spelled : Blanks x row left

skipped_in : (n : ℕ) (x : Bool) (t : Text) → Skipped x t (past_blanks_in n x t)
unfolding past_blanks_in
skipped_in zero x t = record { row = []; is = refl; spelled = no_blank }
skipped_in (suc n) x t = go (past_blank x t) refl (λ u. skipped_in n x u)
  where
    go : (o : Option Text) → past_blank x t ≡ o → ((u : Text) → Skipped x u (past_blanks_in n x u)) → Skipped x t (text_or (past_blanks_in n x) t o)
    go None e g = record { row = []; is = refl; spelled = no_blank }
    go (Some u) e g =
        let b = one_blank x t u e in
        let r = g u in
        record {
          row = b.0 ++ r.row;
          is = b.1.0 ∙ (ap (λ l. b.0 ++ l) r.is ∙ sym (append_assoc b.0 r.row (past_blanks_in n x u)));
          spelled = blanks (subst (λ l. Blank x b.0 l) r.is b.1.1) r.spelled;
        }

pub skipped : (x : Bool) (t : Text) → Skipped x t (past_blanks x t)
skipped x t = skipped_in (length t) x t

skipped_shorter : {x : Bool} {t left : Text} → Skipped x t left → length left ≤ length t
skipped_shorter {left = left} s = omega (arith, ap (length {A = ℕ}) s.is, length-append s.row left)

pub blanks_shorter : (x : Bool) (t : Text) → length (past_blanks x t) ≤ length t
blanks_shorter x t = skipped_shorter (skipped x t)

-- what is spelled is skipped
past_inside_line : (inside u : Text) → is_among 10 inside ≡ false → past_line (inside ++ 10 ∷ u) ≡ u
past_inside_line [] u h = refl
past_inside_line (c ∷ inside) u h = let n = either_no (c == 10) (is_among 10 inside) h in rw n.0 (past_inside_line inside u n.1)

past_last_line : (inside : Text) → is_among 10 inside ≡ false → past_line inside ≡ []
past_last_line [] h = refl
past_last_line (c ∷ inside) h = let n = either_no (c == 10) (is_among 10 inside) h in rw n.0 (past_last_line inside n.1)

past_inside_comment : (inside u : Text) → is_among 41 inside ≡ false → past_comment (inside ++ 41 ∷ u) ≡ Some u
past_inside_comment [] u h = refl
past_inside_comment (c ∷ inside) u h = let n = either_no (c == 41) (is_among 41 inside) h in rw n.0 (past_inside_comment inside u n.1)

read_blank : {x : Bool} {t u : Text} → Blank x t u → past_blank x (t ++ u) ≡ Some u
read_blank {u = u} (comment inside h) = rw (append_assoc inside (41 ∷ []) u) (past_inside_comment inside u h)
read_blank (blank c h) = rw h refl
read_blank {u = u} (line inside h) = rw (append_assoc inside (10 ∷ []) u) (ap Some (past_inside_line inside u h))
read_blank (last_line inside h) = ap Some (ap past_line (append-nil inside) ∙ past_last_line inside h)

pub read_blanks : {x : Bool} {t u : Text} → Blanks x t u → past_blank x u ≡ None → past_blanks x (t ++ u) ≡ u
read_blanks {x} {u = u} no_blank h = blanks_stop x u h
read_blanks {x} {u = u} (blanks {t = t} {u = v} b r) h = rw (append_assoc t v u) (blanks_step x (t ++ (v ++ u)) (v ++ u) (read_blank b) ∙ read_blanks r h)

-- what begins no blank
or_cases : (a b : Bool) → (a || b) ≡ true → (a ≡ true) ⊎ (b ≡ true)
or_cases true b h = inl refl
or_cases false b h = inr h

begins_none : (x : Bool) (d c : ℕ) (t : Text) → (d == c) ≡ true → past_blank x (d ∷ t) ≡ None → past_blank x (c ∷ t) ≡ None
begins_none x d c t h e = subst (λ y. past_blank x (y ∷ t) ≡ None) (sym (char_is d c h)) e

pub end_is_no_blank : (x : Bool) (t : Text) → ends_branch t ≡ true → past_blank x t ≡ None
end_is_no_blank x [] h = refl
end_is_no_blank x (c ∷ t) h =
    elim (or_cases (124 == c) ((41 == c) || false) h) [
      | inl y ↦ begins_none x 124 c t y refl
      | inr y ↦ elim (or_cases (41 == c) false y) [ inl z ↦ begins_none x 41 c t z refl | inr z ↦ absurd (true_is_false (sym z)) ]
    ]

pub quantifier_is_no_blank : (x : Bool) (t : Text) → begins_quantifier t ≡ true → past_blank x t ≡ None
quantifier_is_no_blank x [] h = refl
quantifier_is_no_blank x (c ∷ t) h =
    elim (or_cases (is_at "?*+" (c ∷ t)) (begins_count (c ∷ t)) h) [
      | inl y ↦ elim (or_cases (63 == c) ((42 == c) || ((43 == c) || false)) y) [
        | inl z ↦ begins_none x 63 c t z refl
        | inr z ↦ elim (or_cases (42 == c) ((43 == c) || false) z) [
          | inl w ↦ begins_none x 42 c t w refl
          | inr w ↦ elim (or_cases (43 == c) false w) [ inl v ↦ begins_none x 43 c t v refl | inr v ↦ absurd (true_is_false (sym v)) ]
        ]
      ]
      | inr y ↦ (let b = both_true (is_at "{" (c ∷ t)) _ y in elim (or_cases (123 == c) false b.0) [ inl z ↦ begins_none x 123 c t z refl | inr z ↦ absurd (true_is_false (sym z)) ])
    ]

-- no quantifier, as it is spelled and as it is read
pub unquantified_is_read : (x : Bool) (after : Text) → IsUnquantified x after → begins_quantifier (past_blanks x after) ≡ false
unquantified_is_read x after h = let s = skipped x after in h s.row (past_blanks x after) s.is s.spelled

pub unquantified_is_spelled : (x : Bool) (after : Text) → begins_quantifier (past_blanks x after) ≡ false → IsUnquantified x after
unquantified_is_spelled x after h t u is row = go (begins_quantifier u) refl
  where
    go : (b : Bool) → begins_quantifier u ≡ b → b ≡ false
    go true e = (let left : past_blanks x after ≡ u = ap (past_blanks x) is ∙ read_blanks row (quantifier_is_no_blank x u e) in absurd (true_is_false (sym e ∙ (ap begins_quantifier (sym left) ∙ h))))
    go false e = refl

-- after all blanks stands none
none_in : (n : ℕ) (x : Bool) (t : Text) → length t < n → past_blank x (past_blanks_in n x t) ≡ None
unfolding past_blanks_in
none_in zero x t h = absurd (omega (arith, h))
none_in (suc n) x t h = go (past_blank x t) refl (λ u l. none_in n x u (omega (arith, l, h)))
  where
    go : (o : Option Text) → past_blank x t ≡ o → ((u : Text) → length u < length t → past_blank x (past_blanks_in n x u) ≡ None) → past_blank x (text_or (past_blanks_in n x) t o) ≡ None
    go None e g = e
    go (Some u) e g = g u (blank_shorter x t u e)

pub no_blank_left : (x : Bool) (t : Text) → past_blank x (past_blanks x t) ≡ None
no_blank_left x t = ap (past_blank x) (enough (length t) (suc (length t)) x t (omega arith) (omega arith)) ∙ none_in (suc (length t)) x t (omega arith)
