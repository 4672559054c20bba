-- What is read leaves an end of the text that it was read from.
use Rattle.std.proofs.Common.{◌≡◌, ℕ, ◌+◌, ◌==◌, ◌||◌, ◌&&◌, not, nat_lt, nat_eq, Bool, true, false, List, [], ◌∷◌, ◌++◌, take, Option, Some, None, drop, length, refl, sym, ap, ◌∙◌, subst, append_assoc, inl, inr}
use Rattle.std.proofs.lemmas.List.{take-append-drop}
use Rattle.std.specs.List.{starts_with}
use Rattle.std.specs.Prelude.{if◌then◌else◌}
use Rattle.ucd_sets.specs.declared.set.Set.{Set as PropertySet}
use Rattle.fancy_tree.specs.declared.tree.Meaning.{Meaning}
use Rattle.fancy_tree.specs.Named.{is_unicode}
use Rattle.fancy_tree.specs.declared.named.Named.{Named}
use Rattle.fancy_class.specs.declared.class_item.ClassItem.{ClassItem}
use Rattle.fancy_tree.specs.Text.{Text, ◌∈◌}
use Rattle.fancy_class.specs.Words.{is_at, begins, by_word}
use Rattle.fancy_class.specs.EscapeGrammar.{escape_meaning, escape_at, hexadecimal, escape_number, braced_number, before_brace, by_number, is_character, takes_number, digits_after, single_character, set_here, is_property, property_name}
use Rattle.fancy_tree.specs.Properties.{property_named}
use Rattle.fancy_class.specs.ClassGrammar.{fits, may_negate, range, range_from, range_to, is_ranged, named_set_of, posix, posix_of, posix_words, is_posix, property, property_of, found_property, class_item, class_item_of}
use Rattle.fancy_tree.proofs.Facts.{some_is_none, some_pair, chosen}

-- the second text is an end of the first
pub record Ends (t u : Text) : Type 0 where
  pub front : Text
  pub is : t ≡ front ++ u

pub ends_here : (t : Text) → Ends t t
ends_here t = record { front = []; is = refl }

pub ends_drop : (n : ℕ) (t : Text) → Ends t (drop n t)
ends_drop n t = record { front = take n t; is = sym (take-append-drop n t) }

pub ends_then : {t u v : Text} → Ends t u → Ends u v → Ends t v
ends_then {t} {u} {v} a b = record { front = a.front ++ b.front; is = a.is ∙ (ap (λ l. a.front ++ l) b.is ∙ sym (append_assoc a.front b.front v)) }

pub ends_at : {t u v : Text} → Ends t u → u ≡ v → Ends t v
ends_at {t} a e = subst (Ends t) e a

pub after_one : {c : ℕ} {t u : Text} → Ends t u → Ends (c ∷ t) u
after_one {c} {t} a = ends_then (ends_drop 1 (c ∷ t)) a

-- ---- numbers
ends_by_number : (o : Option ℕ) (b : Bool) (t : Text) {x : ℕ × Bool} {u : Text} → by_number o b t ≡ Some (x, u) → t ≡ u
ends_by_number None b t h = absurd (some_is_none (sym h))
ends_by_number (Some n) b t h =
    elim (chosen (is_character n) _ _ _ h) [
      | inl y ↦ (some_pair y.1).1
      | inr y ↦ absurd (some_is_none (sym y.1))
    ]

pub ends_number : (count : ℕ) (t : Text) {x : ℕ × Bool} {u : Text} → escape_number count t ≡ Some (x, u) → Ends t u
ends_number count t {x} {u} h =
    elim (chosen (is_at "{" t) _ _ _ h) [
      | inl y ↦ braced (drop 1 t) (ends_drop 1 t) y.1
      | inr y ↦ elim (chosen (nat_lt (length t) count) _ _ _ y.1) [
        | inl z ↦ absurd (some_is_none (sym z.1))
        | inr z ↦ ends_at (ends_drop count t) (ends_by_number (hexadecimal 0 (take count t)) (count == 2) (drop count t) z.1)
      ]
    ]
  where
    braced : (v : Text) → Ends t v → braced_number v ≡ Some (x, u) → Ends t u
    braced v e h =
        elim (chosen (nat_lt 0 (before_brace v) && (nat_lt (before_brace v) 9 && nat_lt (before_brace v) (length v))) _ _ _ h) [
          | inl y ↦ ends_at (ends_then e (ends_drop (before_brace v + 1) v)) (ends_by_number (hexadecimal 0 (take (before_brace v) v)) false (drop (before_brace v + 1) v) y.1)
          | inr y ↦ absurd (some_is_none (sym y.1))
        ]

-- ---- characters and sets in classes
ends_escape_at : (o : Option ℕ) (t : Text) {x : ℕ × Bool} {u : Text} → escape_at o t ≡ Some (x, u) → t ≡ u
ends_escape_at None t h = absurd (some_is_none (sym h))
ends_escape_at (Some n) t h = (some_pair h).1

ends_single : (t : Text) {x : ℕ × Bool} {u : Text} → single_character t ≡ Some (x, u) → Ends t u
ends_single [] h = absurd (some_is_none (sym h))
ends_single (c ∷ []) h =
    elim (chosen (c ∈ "\\[") _ _ _ h) [
      | inl y ↦ absurd (some_is_none (sym y.1))
      | inr y ↦ ends_at (ends_drop 1 (c ∷ [])) (some_pair y.1).1
    ]
ends_single (c ∷ d ∷ t) {x} {u} h =
    elim (chosen (c == 92) _ _ _ h) [
      | inl y ↦ by_letter y.1
      | inr y ↦ elim (chosen (c == 91) _ _ _ y.1) [
        | inl z ↦ absurd (some_is_none (sym z.1))
        | inr z ↦ ends_at (ends_drop 1 (c ∷ d ∷ t)) (some_pair z.1).1
      ]
    ]
  where
    two : {v : Text} → Ends t v → Ends (c ∷ d ∷ t) v
    two e = after_one (after_one e)

    by_letter : (if takes_number d then escape_number (digits_after d) t else escape_at (escape_meaning d) t) ≡ Some (x, u) → Ends (c ∷ d ∷ t) u
    by_letter e =
        elim (chosen (takes_number d) _ _ _ e) [
          | inl y ↦ two (ends_number (digits_after d) t y.1)
          | inr y ↦ two (ends_at (ends_here t) (ends_escape_at (escape_meaning d) t y.1))
        ]

ends_range : (m : Meaning) (t : Text) {x : ClassItem} {u : Text} → range m t ≡ Some (x, u) → Ends t u
ends_range m t {x} {u} h = from (single_character t) refl h
  where
    to : (q : Text) (a : ℕ) (o : Option ((ℕ × Bool) × Text)) → single_character (drop 1 q) ≡ o → range_to m a o ≡ Some (x, u) → Ends q u
    to q a None e k = absurd (some_is_none (sym k))
    to q a (Some (b, r)) e k =
        elim (chosen (not (fits m b.0 b.1) || nat_lt b.0 a) _ _ _ k) [
          | inl y ↦ absurd (some_is_none (sym y.1))
          | inr y ↦ ends_then (ends_drop 1 q) (ends_at (ends_single (drop 1 q) e) (some_pair y.1).1)
        ]

    from : (o : Option ((ℕ × Bool) × Text)) → single_character t ≡ o → range_from m o ≡ Some (x, u) → Ends t u
    from None e k = absurd (some_is_none (sym k))
    from (Some (a, q)) e k =
        elim (chosen (not (fits m a.0 a.1)) _ _ _ k) [
          | inl y ↦ absurd (some_is_none (sym y.1))
          | inr y ↦ elim (chosen (is_ranged q) _ _ _ y.1) [
            | inl z ↦ ends_then (ends_single t e) (to q a.0 (single_character (drop 1 q)) refl z.1)
            | inr z ↦ ends_at (ends_single t e) (some_pair z.1).1
          ]
        ]

ends_named : (m : Meaning) (t : Text) (n : Named × Bool) {x : ClassItem} {u : Text} → named_set_of m t n ≡ Some (x, u) → t ≡ u
ends_named m t n h =
    elim (chosen (may_negate m n.1) _ _ _ h) [
      | inl y ↦ (some_pair y.1).1
      | inr y ↦ absurd (some_is_none (sym y.1))
    ]

pub ends_by_word : {X : Type 0} (words : List (Text × X)) (t : Text) {x : X} {u : Text} → by_word words t ≡ Some (x, u) → Ends t u
ends_by_word [] t h = absurd (some_is_none (sym h))
ends_by_word ((word, x) ∷ others) t h =
    elim (chosen (starts_with nat_eq t word) _ _ _ h) [
      | inl y ↦ ends_at (ends_drop (length word) t) (some_pair y.1).1
      | inr y ↦ ends_by_word others t y.1
    ]

ends_posix_of : (m : Meaning) (negated : Bool) (t : Text) (o : Option (Named × Text)) {x : ClassItem} {u : Text} → by_word posix_words t ≡ o → posix_of m negated o ≡ Some (x, u) → Ends t u
ends_posix_of m negated t None e h = absurd (some_is_none (sym h))
ends_posix_of m negated t (Some (n, v)) e h = ends_at (ends_by_word posix_words t e) (ends_named m v (n, negated) h)

ends_posix : (m : Meaning) (t : Text) {x : ClassItem} {u : Text} → posix m t ≡ Some (x, u) → Ends t u
ends_posix m t h =
    elim (chosen (begins "[:^" t) _ _ _ h) [
      | inl y ↦ ends_then (ends_drop 3 t) (ends_posix_of m true (drop 3 t) (by_word posix_words (drop 3 t)) refl y.1)
      | inr y ↦ ends_then (ends_drop 2 t) (ends_posix_of m false (drop 2 t) (by_word posix_words (drop 2 t)) refl y.1)
    ]

ends_property_name : (t : Text) {name u : Text} → property_name t ≡ Some (name, u) → Ends t u
ends_property_name [] h = absurd (some_is_none (sym h))
ends_property_name (c ∷ t) h =
    elim (chosen (c == 123) _ _ _ h) [
      | inl y ↦ elim (chosen (nat_lt (before_brace t) (length t)) _ _ _ y.1) [
        | inl z ↦ ends_at (after_one (ends_drop (before_brace t + 1) t)) (some_pair z.1).1
        | inr z ↦ absurd (some_is_none (sym z.1))
      ]
      | inr y ↦ ends_at (ends_drop 1 (c ∷ t)) (some_pair y.1).1
    ]

pub ends_property : (m : Meaning) (t : Text) {x : ClassItem} {u : Text} → property m t ≡ Some (x, u) → Ends t u
ends_property m t {x} {u} h = from (property_name (drop 2 t)) refl h
  where
    found : (negated : Bool) (v : Text) (o : Option PropertySet) → found_property negated v o ≡ Some (x, u) → v ≡ u
    found negated v None k = absurd (some_is_none (sym k))
    found negated v (Some s) k = (some_pair k).1

    from : (o : Option (Text × Text)) → property_name (drop 2 t) ≡ o → property_of m (begins "\\P" t) o ≡ Some (x, u) → Ends t u
    from None e k = absurd (some_is_none (sym k))
    from (Some (name, v)) e k =
        elim (chosen (is_unicode m) _ _ _ k) [
          | inl y ↦ ends_then (ends_drop 2 t) (ends_at (ends_property_name (drop 2 t) e) (found (begins "\\P" t) v (property_named name) y.1))
          | inr y ↦ absurd (some_is_none (sym y.1))
        ]

ends_class_item_of : (m : Meaning) (t : Text) (o : Option (Named × Bool)) {x : ClassItem} {u : Text} → class_item_of m t o ≡ Some (x, u) → Ends t u
ends_class_item_of m t None h = ends_range m t h
ends_class_item_of m t (Some n) h = ends_at (ends_drop 2 t) (ends_named m (drop 2 t) n h)

pub ends_class_item : (m : Meaning) (t : Text) {x : ClassItem} {u : Text} → class_item m t ≡ Some (x, u) → Ends t u
ends_class_item m t h =
    elim (chosen (is_posix t) _ _ _ h) [
      | inl y ↦ ends_posix m t y.1
      | inr y ↦ elim (chosen (is_property t) _ _ _ y.1) [
        | inl z ↦ ends_property m t z.1
        | inr z ↦ ends_class_item_of m t (set_here t) z.1
      ]
    ]
