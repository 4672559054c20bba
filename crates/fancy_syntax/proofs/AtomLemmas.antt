-- What an atom that is no group can be, and that it leaves an end of the text that it was read from.
use Rattle.std.proofs.Common.{◌≡◌, ℕ, ◌==◌, ◌||◌, ◌&&◌, not, nat_lt, Bool, true, false, List, [], ◌∷◌, Option, Some, None, refl, sym, ap, ◌∙◌, subst, inl, inr}
use Rattle.std.specs.Option.{unwrap_or, option_map, option_or, option_and_then}
use Rattle.std.specs.Prelude.{if◌then◌else◌}
use Rattle.fancy_tree.specs.declared.tree.Assertion.{Assertion}
use Rattle.fancy_tree.specs.declared.tree.Assertion.TheVariants.{WordBoundary}
use Rattle.fancy_syntax.specs.Grammar.{ends_branch}
use Rattle.fancy_tree.specs.declared.named.Named.{Named}
use Rattle.fancy_class.specs.declared.class_item.ClassItem.{ClassItem}
use Rattle.fancy_tree.specs.Pattern.{Pattern, member_of, in_any_case, raw_byte, assertion, keep_start, continue_here}
use Rattle.fancy_tree.specs.Text.{Text}
use Rattle.fancy_class.specs.Words.{is_at, by_word}
use Rattle.fancy_syntax.specs.Counts.{begins_count}
use Rattle.fancy_tree.specs.Members.{Members}
use Rattle.fancy_tree.specs.Sets.{AreEdges}
use Rattle.fancy_class.specs.EscapeGrammar.{control_of, escape_number, takes_number, digits_after, set_letter}
use Rattle.fancy_class.specs.ClassGrammar.{is_ascii_meaning, may_negate, property}
use Rattle.fancy_syntax.specs.Dialect.{Scope, Lexeme, leaf, one_of, any_case_of, IsMeant, by_itself, by_edges, by_folding, lexeme, ReadsAtom, by_lexeme, by_class, literal_of, character_lexeme, character_by_number, class_item_lexeme, set_lexeme, is_one_item, number_lexeme, boundary_words, boundary, property_here, followed_by, any_item, any_item_members, letter_lexeme, place_test, start_mark, anchor_of, unescaped_lexeme, escape, escape_in, is_escapable, must_be_escaped}
use Rattle.fancy_tree.proofs.Facts.{true_is_false, some_is_none, some_pair, not_false, chosen, same_some, char_is}
use Rattle.fancy_class.proofs.EndsLemmas.{Ends, ends_here, ends_drop, ends_at, after_one, ends_number, ends_by_word, ends_property}

-- ---- lexemes, and what they can be
pub data Kind (s : Scope) : Lexeme → Type 0 where
  a_character : (c : ℕ) → Kind s (character_lexeme s c)
  a_test : (a : Assertion) → Kind s (leaf (assertion a))
  a_set : (f : Members) → Kind s (one_of f)
  a_byte : (c : ℕ) → s.keeps_characters ≡ false → Kind s (leaf (raw_byte c))
  a_search_start : Kind s (leaf continue_here)
  a_kept_start : s.in_look_around ≡ false → Kind s (leaf keep_start)

pub record Lexed (s : Scope) (t : Text) (x : Lexeme) (u : Text) : Type 0 where
  pub ends : Ends t u
  pub kind : Kind s x

lexed_as : {s : Scope} {t u v : Text} {x y : Lexeme} → ◌≡◌ {A = Option (Lexeme × Text)} (Some (y, v)) (Some (x, u)) → Ends t v → Kind s y → Lexed s t x u
lexed_as {s} h e k = let p = some_pair h in record { ends = ends_at e p.1; kind = subst (Kind s) p.0 k }

lexed_followed : {s : Scope} {t u v : Text} {x : Lexeme} (o : Option Lexeme) → followed_by v o ≡ Some (x, u) → Ends t v → ((y : Lexeme) → o ≡ Some y → Kind s y) → Lexed s t x u
lexed_followed None h e k = absurd (some_is_none (sym h))
lexed_followed (Some y) h e k = lexed_as h e (k y refl)

-- what is false by its negation
number_kind : (s : Scope) (n : ℕ × Bool) → Kind s (character_by_number s n)
number_kind s n = go n.1 (nat_lt 127 n.0) s.keeps_characters refl
  where
    go : (a b keeps : Bool) → s.keeps_characters ≡ keeps → Kind s (if a && (b && not keeps) then leaf (raw_byte n.0) else character_lexeme s n.0)
    go true true false e = a_byte n.0 e
    go true true true e = a_character n.0
    go true false keeps e = a_character n.0
    go false b keeps e = a_character n.0

any_kind : (s : Scope) (all : Bool) (y : Lexeme) → any_item s all ≡ Some y → Kind s y
any_kind s all y h =
    elim (chosen (is_ascii_meaning s.meaning) _ _ _ h) [
      | inl z ↦ absurd (some_is_none (sym z.1))
      | inr z ↦ subst (Kind s) (same_some z.1) (a_set (any_item_members s all))
    ]

both_hold : (a b : Bool) → (a && b) ≡ true → b ≡ true
both_hold true b h = h
both_hold false b h = cc

lettered_kind : (s : Scope) (d : ℕ) (y : Lexeme) → letter_lexeme s d ≡ Some y → Kind s y
lettered_kind s d y h = by_control (control_of d) h
  where
    by_set : (o : Option (Named × Bool)) → option_and_then (set_lexeme s) o ≡ Some y → Kind s y
    by_set None e = absurd (some_is_none (sym e))
    by_set (Some n) e =
        elim (chosen (may_negate s.meaning n.1) _ _ _ e) [
          | inl z ↦ subst (Kind s) (same_some z.1) (a_set _)
          | inr z ↦ absurd (some_is_none (sym z.1))
        ]

    by_mark : (o : Option Pattern) → start_mark s.in_look_around d ≡ o → option_or (option_map leaf o) (option_and_then (set_lexeme s) (set_letter d)) ≡ Some y → Kind s y
    by_mark None is e = by_set (set_letter d) e
    by_mark (Some p) is e =
        subst (Kind s) (same_some e)
        (elim (chosen (71 == d) _ _ _ is) [
          | inl z ↦ subst (λ q. Kind s (leaf q)) (same_some z.1) a_search_start
          | inr z ↦ elim (chosen ((75 == d) && not s.in_look_around) _ _ _ z.1) [
            | inl w ↦ subst (λ q. Kind s (leaf q)) (same_some w.1) (a_kept_start (not_false s.in_look_around (both_hold (75 == d) (not s.in_look_around) w.0)))
            | inr w ↦ absurd (some_is_none (sym w.1))
          ]
        ])

    by_test : (o : Option Assertion) → option_or (option_map (λ (a : Assertion). leaf (assertion a)) o) (option_or (option_map leaf (start_mark s.in_look_around d)) (option_and_then (set_lexeme s) (set_letter d))) ≡ Some y → Kind s y
    by_test None e = by_mark (start_mark s.in_look_around d) refl e
    by_test (Some a) e = subst (Kind s) (same_some e) (a_test a)

    by_control : (o : Option ℕ) → option_or (option_map (character_lexeme s) o) (option_or (option_map (λ (a : Assertion). leaf (assertion a)) (place_test s.flags d)) (option_or (option_map leaf (start_mark s.in_look_around d)) (option_and_then (set_lexeme s) (set_letter d)))) ≡ Some y → Kind s y
    by_control None e = by_test (place_test s.flags d) e
    by_control (Some c) e = subst (Kind s) (same_some e) (a_character c)

lone_kind : (s : Scope) (c : ℕ) (t : Text) (y : Lexeme) → unescaped_lexeme s c t ≡ Some y → Kind s y
lone_kind s c t y h = by_anchor (anchor_of s.flags c) h
  where
    by_anchor : (o : Option Assertion) → option_or (option_map (λ (a : Assertion). leaf (assertion a)) o) (if must_be_escaped c || begins_count (c ∷ t) then None else Some (character_lexeme s c)) ≡ Some y → Kind s y
    by_anchor (Some a) e = subst (Kind s) (same_some e) (a_test a)
    by_anchor None e =
        elim (chosen (must_be_escaped c || begins_count (c ∷ t)) _ _ _ e) [
          | inl z ↦ absurd (some_is_none (sym z.1))
          | inr z ↦ subst (Kind s) (same_some z.1) (a_character c)
        ]

lexed_number : (s : Scope) (count : ℕ) (t : Text) {x : Lexeme} {u : Text} → number_lexeme s count t ≡ Some (x, u) → Lexed s t x u
lexed_number s count t {x} {u} h = go (escape_number count t) refl h
  where
    go : (o : Option ((ℕ × Bool) × Text)) → escape_number count t ≡ o → option_map {U = Lexeme × Text} (λ (r : (ℕ × Bool) × Text). (character_by_number s r.0, r.1)) o ≡ Some (x, u) → Lexed s t x u
    go None e k = absurd (some_is_none (sym k))
    go (Some (n, v)) e k = lexed_as k (ends_number count t e) (number_kind s n)

lexed_property : (s : Scope) (t : Text) {x : Lexeme} {u : Text} → property_here s t ≡ Some (x, u) → Lexed s t x u
lexed_property s t {x} {u} h = go (property s.meaning t) refl h
  where
    go : (o : Option (ClassItem × Text)) → property s.meaning t ≡ o → option_map {U = Lexeme × Text} (λ (r : ClassItem × Text). (class_item_lexeme s r.0, r.1)) o ≡ Some (x, u) → Lexed s t x u
    go None e k = absurd (some_is_none (sym k))
    go (Some (y, v)) e k = lexed_as k (ends_property s.meaning t e) (a_set _)

ends_boundary : (t : Text) → Ends t (boundary t).1
ends_boundary t = go (by_word boundary_words t) refl
  where
    go : (o : Option (Assertion × Text)) → by_word boundary_words t ≡ o → Ends t (unwrap_or o (WordBoundary, t)).1
    go None e = ends_here t
    go (Some (a, u)) e = ends_by_word boundary_words t e

lexed_escape : (s : Scope) (d : ℕ) (t : Text) {x : Lexeme} {u : Text} → escape s d t ≡ Some (x, u) → Lexed s (92 ∷ d ∷ t) x u
lexed_escape s d t {x} {u} h =
    elim (chosen (is_escapable d) _ _ _ h) [
      | inl y ↦ lexed_as y.1 (two (ends_here t)) (a_character d)
      | inr y ↦ elim (chosen (98 == d) _ _ _ y.1) [
        | inl y ↦ lexed_as y.1 (two (ends_boundary t)) (a_test (boundary t).0)
        | inr y ↦ elim (chosen (takes_number d) _ _ _ y.1) [
          | inl y ↦ after_two (lexed_number s (digits_after d) t y.1)
          | inr y ↦ elim (chosen (79 == d) _ _ _ y.1) [
            | inl y ↦ lexed_followed (any_item s true) y.1 (two (ends_here t)) (any_kind s true)
            | inr y ↦ elim (chosen (78 == d) _ _ _ y.1) [
              | inl y ↦ lexed_followed (any_item s false) y.1 (two (ends_here t)) (any_kind s false)
              | inr y ↦ elim (chosen ((112 == d) || (80 == d)) _ _ _ y.1) [
                | inl y ↦ lexed_property s (92 ∷ d ∷ t) y.1
                | inr y ↦ lexed_followed (letter_lexeme s d) y.1 (two (ends_here t)) (lettered_kind s d)
              ]
            ]
          ]
        ]
      ]
    ]
  where
    two : {v : Text} → Ends t v → Ends (92 ∷ d ∷ t) v
    two e = after_one (after_one e)

    after_two : Lexed s t x u → Lexed s (92 ∷ d ∷ t) x u
    after_two l = record { ends = two l.ends; kind = l.kind }

pub lexed : (s : Scope) (t : Text) {x : Lexeme} {u : Text} → lexeme s t ≡ Some (x, u) → Lexed s t x u
lexed s [] h = absurd (some_is_none (sym h))
lexed s (c ∷ t) {x} {u} h =
    elim (chosen (92 == c) _ _ _ h) [
      | inl y ↦ subst (λ d. Lexed s (d ∷ t) x u) (sym (char_is 92 c y.0)) (escaped_at t y.1)
      | inr y ↦ elim (chosen (46 == c) _ _ _ y.1) [
        | inl z ↦ lexed_followed (any_item s s.flags.dot_all) z.1 (ends_drop 1 (c ∷ t)) (any_kind s s.flags.dot_all)
        | inr z ↦ lexed_followed (unescaped_lexeme s c t) z.1 (ends_drop 1 (c ∷ t)) (lone_kind s c t)
      ]
    ]
  where
    escaped_at : (v : Text) → escape_in s v ≡ Some (x, u) → Lexed s (92 ∷ v) x u
    escaped_at [] e = absurd (some_is_none (sym e))
    escaped_at (d ∷ v) e = lexed_escape s d v e

pub ends_atom : {s : Scope} {t u : Text} {a : Pattern} → ReadsAtom s t a u → Ends t u
ends_atom {s} {t} (by_lexeme h m) = (lexed s t h).ends
ends_atom (by_class h m) = record { front = m.1.class; is = m.1.is }

-- what an atom can be that is no group
pub data IsSimple (s : Scope) : Pattern → Type 0 where
  literal : (c : ℕ) → IsSimple s (literal_of s.meaning c)
  test : (a : Assertion) → IsSimple s (assertion a)
  item : (es : List ℕ) → AreEdges es → IsSimple s (member_of es)
  any_case : (es : List ℕ) → AreEdges es → IsSimple s (in_any_case es)
  byte : (c : ℕ) → s.keeps_characters ≡ false → IsSimple s (raw_byte c)
  search_start : IsSimple s continue_here
  kept_start : s.in_look_around ≡ false → IsSimple s keep_start

simple_leaf : (s : Scope) {a : Pattern} {x : Lexeme} → IsMeant x a → ((b : Pattern) → x ≡ leaf b → IsSimple s b) → IsSimple s a
simple_leaf s {a} by_itself f = f a refl
simple_leaf s (by_edges {es = es} e h) f = item es e
simple_leaf s (by_folding {es = es} e h) f = any_case es e

leaf_same : {a b : Pattern} → leaf a ≡ leaf b → a ≡ b
leaf_same h = cc

leaf_is_no_set : {a : Pattern} {f : Members} → one_of f ≡ leaf a → ⊥
leaf_is_no_set h = cc

leaf_is_no_literal : {a : Pattern} {f : Members} → any_case_of f ≡ leaf a → ⊥
leaf_is_no_literal h = cc

simple_of : (s : Scope) {a : Pattern} {x : Lexeme} → Kind s x → IsMeant x a → IsSimple s a
simple_of s (a_character c) m = simple_leaf s m (λ b e. of_character b _ (s.flags.ignore_case && is_one_item s.meaning c) e)
  where
    of_character : (b : Pattern) (f : Members) (w : Bool) → (if w then any_case_of f else leaf (literal_of s.meaning c)) ≡ leaf b → IsSimple s b
    of_character b f true e = absurd (leaf_is_no_literal e)
    of_character b f false e = subst (IsSimple s) (leaf_same e) (literal c)
simple_of s (a_test a) m = simple_leaf s m (λ b e. subst (IsSimple s) (leaf_same e) (test a))
simple_of s (a_set f) m = simple_leaf s m (λ b e. absurd (leaf_is_no_set e))
simple_of s (a_byte c k) m = simple_leaf s m (λ b e. subst (IsSimple s) (leaf_same e) (byte c k))
simple_of s a_search_start m = simple_leaf s m (λ b e. subst (IsSimple s) (leaf_same e) search_start)
simple_of s (a_kept_start k) m = simple_leaf s m (λ b e. subst (IsSimple s) (leaf_same e) (kept_start k))

pub simple_atom : {s : Scope} {t u : Text} {a : Pattern} → ReadsAtom s t a u → IsSimple s a
simple_atom {s} {t} (by_lexeme h m) = simple_of s (lexed s t h).kind m
simple_atom (by_class {es = es} h m) = item es m.0

-- an atom begins with none of the characters that nothing begins with
begins_otherwise : {s : Scope} {c : ℕ} {t u : Text} {a : Pattern} → ReadsAtom s (c ∷ t) a u → (d : ℕ) → lexeme s (d ∷ t) ≡ None → (91 == d) ≡ false → (d == c) ≡ false
begins_otherwise {s} {c} {t} r d nothing other = go (d == c) refl r
  where
    go : {u : Text} {a : Pattern} (b : Bool) → (d == c) ≡ b → ReadsAtom s (c ∷ t) a u → b ≡ false
    go false e r = refl
    go true e (by_lexeme h m) = absurd (some_is_none (sym h ∙ (ap (λ x. lexeme s (x ∷ t)) (char_is d c e) ∙ nothing)))
    go true e (by_class h m) = absurd (true_is_false (sym h ∙ (ap (λ x. (91 == x) || false) (char_is d c e) ∙ ap (λ x. x || false) other)))

pub no_paren : {s : Scope} {t u : Text} {a : Pattern} → ReadsAtom s t a u → is_at "(" t ≡ false
no_paren {t = []} r = refl
no_paren {t = c ∷ t} r = rw (begins_otherwise r 40 refl refl) refl

pub no_end : {s : Scope} {t u : Text} {a : Pattern} → ReadsAtom s t a u → ends_branch t ≡ false
no_end {t = []} (by_lexeme h m) = absurd (some_is_none (sym h))
no_end {t = []} (by_class h m) = absurd (true_is_false (sym h))
no_end {t = c ∷ t} r = rw (begins_otherwise r 124 refl refl, begins_otherwise r 41 refl refl) refl
