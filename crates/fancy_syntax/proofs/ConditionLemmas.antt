-- Conditions that test a group, as they are spelled and as they are read.
use Rattle.std.proofs.Common.{◌≡◌, ℕ, ◌==◌, ◌||◌, ◌&&◌, not, Bool, true, false, [], ◌∷◌, ◌++◌, length, Option, Some, None, drop, refl, sym, ap, ◌∙◌, subst, append_assoc, inl, inr, cond}
use Rattle.std.specs.Char.{is_ascii_digit}
use Rattle.unicode.proofs.DerivedComputing.{ucd_derived}
use Rattle.unicode.proofs.CategoryComputing.{ucd_category}
use Rattle.unicode.specs.Binary.{is_alphabetic}
use Rattle.unicode.specs.GeneralCategory.{general_category}
use Rattle.fancy_tree.specs.Text.{Text}
use Rattle.fancy_tree.specs.Names.{is_name_character, is_name, name_here, past_name}
use Rattle.fancy_class.specs.Words.{is_at_any, is_at}
use Rattle.fancy_syntax.specs.Counts.{is_at_digit, past_digits, decimal, are_digits}
use Rattle.fancy_syntax.specs.References.{Target, called, within_largest, number_condition, name_condition, group_condition}
use Rattle.fancy_syntax.specs.Dialect.{Condition, group_number, group_name, quoted_name, TestsNoGroup}
use Rattle.fancy_tree.proofs.Facts.{some_pair, some_is_none, true_is_false, chosen, char_is, both_true}
use Rattle.fancy_tree.proofs.NameLemmas.{no_closing, name_is_read, past_read, name_is_some, row_is_name, row_then_rest}
use Rattle.fancy_class.proofs.WordLemmas.{first_is}
use Rattle.fancy_syntax.proofs.CountLemmas.{past_row, decimal-row, at_row, row_of}

-- a quote is no character of names
no_quote : is_name_character 39 ≡ false
unfolding is_name_character ucd_derived ucd_category is_alphabetic general_category
no_quote = refl

other_digit : (d c : ℕ) → is_ascii_digit d ≡ false → is_ascii_digit c ≡ true → (d == c) ≡ false
other_digit d c h e = go (d == c) refl
  where
    go : (b : Bool) → (d == c) ≡ b → b ≡ false
    go false f = refl
    go true f = absurd (true_is_false (sym e ∙ (ap is_ascii_digit (char_is d c f) ∙ h)))

-- ---- a condition that is spelled is read
choose_name : (a b : Bool) (m n u v : Text) → a ≡ false → b ≡ true → m ≡ n → u ≡ v
    → ◌≡◌ {A = Option (Target × Text)} (cond {A = Option (Target × Text)} (a || not b) None (Some (called m, drop 2 u))) (Some (called n, drop 2 v))
choose_name a b m n u v h e f w = rw (h, e, f, w) refl

name_read : (d : ℕ) (n after : Text) → is_name_character d ≡ false → (d == d) ≡ true → is_name n ≡ true → name_condition d (n ++ d ∷ 41 ∷ after) ≡ Some (called n, after)
name_read d n after e same h =
    let past : past_name (n ++ d ∷ 41 ∷ after) ≡ d ∷ 41 ∷ after = past_read d n (41 ∷ after) e h in
    let here : name_here (n ++ d ∷ 41 ∷ after) ≡ n = name_is_read d n (41 ∷ after) e h in
    choose_name (length (name_here (n ++ d ∷ 41 ∷ after)) == 0) (is_at_any (d ∷ []) (past_name (n ++ d ∷ 41 ∷ after)) && is_at ")" (drop 1 (past_name (n ++ d ∷ 41 ∷ after))))
    (name_here (n ++ d ∷ 41 ∷ after)) n (past_name (n ++ d ∷ 41 ∷ after)) (d ∷ 41 ∷ after)
    (ap (λ (l : Text). length l == 0) here ∙ name_is_some n h) (ap (λ (u : Text). is_at_any (d ∷ []) u && is_at ")" (drop 1 u)) past ∙ rw same refl) here past

number_read : (n after : Text) → is_at_digit n ≡ true → are_digits n ≡ true → number_condition (n ++ 41 ∷ after) ≡ Some (within_largest (decimal n), after)
number_read n after b h = rw (at_row n (41 ∷ after) b, past_row n (41 ∷ after) h refl, decimal-row n (41 ∷ after) h refl) refl

pub condition_is_read : {c : Text} {w : Target} → Condition c w → (after : Text) → group_condition (c ++ 41 ∷ after) ≡ Some (w, after)
condition_is_read (group_number n b h) after = go n b h
  where
    go : (n : Text) → is_at_digit n ≡ true → are_digits n ≡ true → group_condition (n ++ 41 ∷ after) ≡ Some (within_largest (decimal n), after)
    go [] b h = cc
    go (c ∷ n) b h = rw (other_digit 60 c refl b, other_digit 39 c refl b) (number_read (c ∷ n) after b h)
condition_is_read (group_name n h) after = rw (append_assoc n (62 ∷ []) (41 ∷ after)) (name_read 62 n after no_closing refl h)
condition_is_read (quoted_name n h) after = rw (append_assoc n (39 ∷ []) (41 ∷ after)) (name_read 39 n after no_quote refl h)

-- ---- and what is read is spelled
pub record SpellsTest (t : Text) (w : Target) (after : Text) : Type 0 where
  pub condition : Text
  pub is : t ≡ condition ++ 41 ∷ after
  pub tests : Condition condition w

either_false : (a b : Bool) → (a || not b) ≡ false → (a ≡ false) × (b ≡ true)
either_false true b h = cc
either_false false true h = (refl, refl)
either_false false false h = cc

same_test : {t : Text} {v w : Target} {a b : Text} → ◌≡◌ {A = Option (Target × Text)} (Some (v, a)) (Some (w, b)) → SpellsTest t v a → SpellsTest t w b
same_test {t} {v} {w} {a} {b} s x = let e = some_pair s in subst (λ (y : Target). SpellsTest t y b) e.0 (subst (λ (y : Text). SpellsTest t v y) e.1 x)

-- what follows a name, its delimiter and a parenthesis
named_text : (d : ℕ) (t : Text) → is_at_any (d ∷ []) (past_name t) ≡ true → is_at ")" (drop 1 (past_name t)) ≡ true → t ≡ name_here t ++ d ∷ 41 ∷ drop 2 (past_name t)
named_text d t h e =
    row_then_rest t ∙ ap (λ (l : Text). name_here t ++ l) (first_is d (past_name t) h ∙ ap (λ (l : Text). d ∷ l) (first_is 41 (drop 1 (past_name t)) e ∙ ap (λ (l : Text). 41 ∷ l) (twice (past_name t))))
  where
    twice : (u : Text) → drop 1 (drop 1 u) ≡ drop 2 u
    twice [] = refl
    twice (x ∷ u) = refl

by_name : (o d : ℕ) (t : Text) {w : Target} {after : Text} → ((n : Text) → is_name n ≡ true → Condition (o ∷ (n ++ d ∷ [])) (called n))
    → t ≡ o ∷ drop 1 t → name_condition d (drop 1 t) ≡ Some (w, after) → SpellsTest t w after
by_name o d t spells is h =
    let u = drop 1 t in
    elim (chosen ((length (name_here u) == 0) || not (is_at_any (d ∷ []) (past_name u) && is_at ")" (drop 1 (past_name u)))) _ _ _ h) [
      | inl y ↦ absurd (some_is_none (sym y.1))
      | inr y ↦
          let n = either_false (length (name_here u) == 0) (is_at_any (d ∷ []) (past_name u) && is_at ")" (drop 1 (past_name u))) y.0 in
          let e = both_true (is_at_any (d ∷ []) (past_name u)) (is_at ")" (drop 1 (past_name u))) n.1 in
          same_test y.1 (record {
            condition = o ∷ (name_here u ++ d ∷ []);
            is = is ∙ ap (λ (l : Text). o ∷ l) (named_text d u e.0 e.1 ∙ sym (append_assoc (name_here u) (d ∷ []) (41 ∷ drop 2 (past_name u))));
            tests = spells (name_here u) (row_is_name u n.0);
          })
    ]

by_number : (t : Text) {w : Target} {after : Text} → number_condition t ≡ Some (w, after) → SpellsTest t w after
by_number t h =
    elim (chosen (is_at_digit t && is_at ")" (past_digits t)) _ _ _ h) [
      | inl y ↦
          let e = both_true (is_at_digit t) (is_at ")" (past_digits t)) y.0 in
          let r = row_of t in
          same_test y.1 (record {
            condition = r.row;
            is = r.is ∙ ap (λ (l : Text). r.row ++ l) (first_is 41 (past_digits t) e.1);
            tests = subst (λ (n : ℕ). Condition r.row (within_largest n)) (sym (r.number 0)) (group_number r.row (sym r.begins ∙ e.0) r.digits);
          })
      | inr y ↦ absurd (some_is_none (sym y.1))
    ]

pub condition_is_spelled : (t : Text) {w : Target} {after : Text} → group_condition t ≡ Some (w, after) → SpellsTest t w after
condition_is_spelled t h =
    elim (chosen (is_at "<" t) _ _ _ h) [
      | inl y ↦ by_name 60 62 t group_name (first_is 60 t y.0) y.1
      | inr y ↦ elim (chosen (is_at "'" t) _ _ _ y.1) [
        | inl z ↦ by_name 39 39 t quoted_name (first_is 39 t z.0) z.1
        | inr z ↦ by_number t z.1
      ]
    ]

-- ---- no test is spelled exactly where none is read
pub tests_no_group : (t : Text) → group_condition t ≡ None → TestsNoGroup t
tests_no_group t h c after w is tests = some_is_none (sym (condition_is_read tests after) ∙ (ap group_condition (sym is) ∙ h))

pub none_is_read : (t : Text) → TestsNoGroup t → group_condition t ≡ None
none_is_read t h = go (group_condition t) refl
  where
    go : (o : Option (Target × Text)) → group_condition t ≡ o → o ≡ None
    go None e = refl
    go (Some (w, after)) e = let r = condition_is_spelled t e in absurd (h r.condition after w r.is r.tests)
