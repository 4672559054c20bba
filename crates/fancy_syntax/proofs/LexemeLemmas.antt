-- What the functions that read characters and escapes give, is what the dialect means.
use Rattle.std.proofs.Common.{◌≡◌, ℕ, ◌+◌, ◌*◌, ◌<◌, ◌≤◌, ◌==◌, ◌&&◌, nat_lt, Bool, true, false, List, [], ◌∷◌, take, Option, Some, None, drop, length, refl, sym, ap, ap₂, ◌∙◌, subst, arith, inl, inr, Result, Ok, Err}
use Rattle.std.proofs.lemmas.Bool.Decides.{nat_tests}
use Rattle.std.specs.Char.{digit_value}
use Rattle.std.specs.Option.{option_map}
use Rattle.std.specs.Prelude.{IfOk}
use Rattle.std.specs.declared.alloc.AllocError.{AllocError}
use Rattle.fancy_tree.specs.declared.error.Error.{Error}
use Rattle.fancy_tree.specs.declared.error.Error.TheVariants.{Memory, ParseError, CompileError, RuntimeError}
use Rattle.fancy_class.specs.declared.refusal.ClassRefusal.{ClassRefusal}
use Rattle.fancy_class.specs.declared.refusal.ClassRefusal.TheVariants as refusal
use Rattle.fancy_tree.specs.declared.tree.Assertion.{Assertion}
use Rattle.fancy_tree.specs.declared.tree.Tree.{Tree}
use Rattle.fancy_tree.specs.Pattern.{Pattern, pattern_of, member_of, in_any_case, assertion}
use Rattle.fancy_tree.specs.Text.{Text}
use Rattle.fancy_class.specs.Words.{is_at}
use Rattle.fancy_class.specs.EscapeGrammar.{hexadecimal, escape_number, fixed_number, braced_number, before_brace, by_number, is_character}
use Rattle.fancy_class.specs.ClassGrammar.{ReadsEdges}
use Rattle.fancy_class.specs.ClassViews.{RefusesClass}
use Rattle.fancy_syntax.specs.Dialect.{Scope, Lexeme, leaf, IsMeant, by_itself, by_edges, by_folding, lexeme, ReadsAtom, by_lexeme, by_class, wants, reference_here, literal_of, character_lexeme, character_by_number, is_one_item, number_lexeme, boundary, boundary_here}
use Rattle.fancy_syntax.specs.References.{Target, read_reference, begins_reference}
use Rattle.fancy_syntax.specs.Grammar.{Place, place_past, start, IsAtom, alone, refers}
use Rattle.fancy_syntax.specs.Views.{MemoryOr, Gives, GivesMeant, GivesLexeme, error_at}
use Rattle.fancy_class.specs.Readings.{IsTheReading, HasNoReading}
use Rattle.fancy_tree.proofs.CanonicalLemmas.{edges_unique}
use Rattle.fancy_tree.proofs.Facts.{some_pair, some_is_none, true_is_false, chosen, same_some, char_is, left_of}
use Rattle.fancy_syntax.proofs.ReferenceLemmas.{reference_begins, no_bracket_begun, no_atom_begun}
use Rattle.fancy_class.proofs.ClassSpelling.{one_class}
use mathlib.Core.Path.{fun_ext}

-- a place that moved on, and one that the text alone makes
pub meant_past : {x : Lexeme} (p : Place) {q : Place} (n : ℕ) (t : Tree) → q ≡ place_past n p → IsMeant x (pattern_of t) → GivesMeant (Some (x, drop n p.text)) (Ok t) p q
meant_past {x} p n t e m = (x, ap (λ (y : Place). Some (x, y.text)) (sym e), m, e ∙ ap (λ (y : Place). start p.scope y.text) (sym e))

pub leaf_past : {a : Pattern} (p : Place) {q : Place} (n : ℕ) (t : Tree) → q ≡ place_past n p → pattern_of t ≡ a → GivesMeant (Some (leaf a, drop n p.text)) (Ok t) p q
leaf_past {a} p n t e is = meant_past p n t e (subst (λ x. IsMeant (leaf a) x) (sym is) by_itself)

pub leaf_is : {a b : Pattern} → b ≡ a → IsMeant (leaf a) b
leaf_is {a} e = subst (λ x. IsMeant (leaf a) x) (sym e) by_itself

-- characters
pub one_character : (s : Scope) (c : ℕ) {a : Pattern} → (s.flags.ignore_case && is_one_item s.meaning c) ≡ false → a ≡ literal_of s.meaning c → IsMeant (character_lexeme s c) a
one_character s c h e = rw h (leaf_is e)

pub if_literal : (s : Scope) (c : ℕ) (r : Result Tree AllocError) → (s.flags.ignore_case && is_one_item s.meaning c) ≡ false → IfOk r (λ t. pattern_of t ≡ literal_of s.meaning c) → IfOk r (λ t. IsMeant (character_lexeme s c) (pattern_of t))
if_literal s c (Ok t) h e = one_character s c h e
if_literal s c (Err e) h f = tt

-- two hexadecimal digits write a byte
two_digits : (t : Text) (n : ℕ) → hexadecimal 0 (take 2 t) ≡ Some n → n ≤ 255
two_digits [] n h = let e : 0 ≡ n = same_some h in omega (arith, e)
two_digits (c ∷ []) n h =
    elim (chosen (nat_lt (digit_value c) 16) _ _ _ h) [
      | inl x ↦ (let e : 0 * 16 + digit_value c ≡ n = same_some x.1 in let d : digit_value c < 16 = grind (arith, nat_tests) in omega (arith, e, d))
      | inr x ↦ absurd (some_is_none (sym x.1))
    ]
two_digits (c ∷ d ∷ t) n h =
    elim (chosen (nat_lt (digit_value c) 16) _ _ _ h) [
      | inl x ↦ elim (chosen (nat_lt (digit_value d) 16) _ _ _ x.1) [
        | inl y ↦
            (let e : (0 * 16 + digit_value c) * 16 + digit_value d ≡ n = same_some y.1 in
            let f : digit_value c < 16 = grind (arith, nat_tests) in
            let g : digit_value d < 16 = grind (arith, nat_tests) in
            omega (arith, e, f, g))
        | inr y ↦ absurd (some_is_none (sym y.1))
      ]
      | inr x ↦ absurd (some_is_none (sym x.1))
    ]

by_number_is : (o : Option ℕ) (b : Bool) (t : Text) {n : ℕ} {is_byte : Bool} {u : Text} → by_number o b t ≡ Some ((n, is_byte), u) → (o ≡ Some n) × (is_byte ≡ b) × (u ≡ t)
by_number_is None b t h = absurd (some_is_none (sym h))
by_number_is (Some m) b t {n} {is_byte} {u} h =
    elim (chosen (is_character m) _ _ _ h) [
      | inl x ↦ (let e = some_pair x.1 in (ap (λ (q : ℕ × Bool). Some q.0) e.0, ap (λ (q : ℕ × Bool). q.1) (sym e.0), sym e.1))
      | inr x ↦ absurd (some_is_none (sym x.1))
    ]

pub byte_is_small : (count : ℕ) (t : Text) {n : ℕ} {is_byte : Bool} {u : Text} → escape_number count t ≡ Some ((n, is_byte), u) → is_byte ≡ true → n ≤ 255
byte_is_small count t {n} {is_byte} {u} h b =
    elim (chosen (is_at "{" t) _ _ _ h) [
      | inl x ↦ absurd (in_braces (drop 1 t) x.1)
      | inr x ↦ plainly x.1
    ]
  where
    in_braces : (v : Text) → braced_number v ≡ Some ((n, is_byte), u) → ⊥
    in_braces v e =
        elim (chosen (nat_lt 0 (before_brace v) && (nat_lt (before_brace v) 9 && nat_lt (before_brace v) (length v))) _ _ _ e) [
          | inl x ↦ (let y = by_number_is (hexadecimal 0 (take (before_brace v) v)) false (drop (before_brace v + 1) v) x.1 in true_is_false (sym b ∙ y.1))
          | inr x ↦ some_is_none (sym x.1)
        ]

    plainly : fixed_number count t ≡ Some ((n, is_byte), u) → n ≤ 255
    plainly e =
        elim (chosen (nat_lt (length t) count) _ _ _ e) [
          | inl x ↦ absurd (some_is_none (sym x.1))
          | inr x ↦
              let y = by_number_is (hexadecimal 0 (take count t)) (count == 2) (drop count t) x.1 in
              let two : count ≡ 2 = (let q : (count == 2) ≡ true = sym y.1 ∙ b in grind (arith, nat_tests)) in
              two_digits t n (ap (λ k. hexadecimal 0 (take k t)) (sym two) ∙ y.0)
        ]

-- the number that is read where a letter of numbers stands
pub number_meant : (s : Scope) (count : ℕ) (t : Text) {c : ℕ × Bool} {u : Text} (p : Place) {q : Place} (tree : Tree) → escape_number count t ≡ Some (c, u) → q ≡ start s u → p.scope ≡ s → IsMeant (character_by_number s c) (pattern_of tree) → GivesMeant (number_lexeme s count t) (Ok tree) p q
number_meant s count t {c} {u} p {q} tree h e f m = (
  character_by_number s c,
  ap (option_map (λ (r : (ℕ × Bool) × Text). (character_by_number s r.0, r.1))) h ∙ ap (λ (y : Place). Some (character_by_number s c, y.text)) (sym e),
  m,
  e ∙ ap (λ (y : Place). start s y.text) (sym e) ∙ ap (λ (z : Scope). start z q.text) (sym f),
)

-- a refusal of the class's reader says of its text what the parser's says
pub refuses_too : (at : ℕ) (e : ClassRefusal) {A B : Type 0} → (A → B) → RefusesClass e A → MemoryOr (error_at at e) B
refuses_too at refusal.Memory f h = tt
refuses_too at (refusal.Invalid kind) f h = f h

pub no_number_lexeme : (s : Scope) (count : ℕ) (t : Text) → escape_number count t ≡ None → number_lexeme s count t ≡ None
no_number_lexeme s count t h = ap (option_map (λ (r : (ℕ × Bool) × Text). (character_by_number s r.0, r.1))) h

pub meant_same : {o n : Lexeme × Text} (t : Tree) (p q : Place) → o ≡ n → GivesMeant (Some n) (Ok t) p q → GivesMeant (Some o) (Ok t) p q
meant_same t p q e h = subst (λ x. GivesMeant (Some x) (Ok t) p q) (sym e) h

-- what was read after `\b`, by the test that it is
pub boundary_meant : {a : Assertion} (w : ℕ) (t : Tree) (p r q : Place) → r ≡ place_past 2 p → boundary r.text ≡ (a, drop w r.text) → GivesLexeme w (Some (leaf (assertion a))) (Ok t) r q → GivesMeant (Some (boundary_here (drop 2 p.text))) (Ok t) p q
boundary_meant {a} w t p r q there e h =
    let word : boundary (drop 2 p.text) ≡ (a, drop w (drop 2 p.text)) = subst (λ (s : Place). boundary s.text ≡ (a, drop w s.text)) there e in
    meant_same t p q (ap (λ (b : Assertion × Text). (leaf (assertion b.0), b.1)) word) (subst (λ (s : Place). GivesLexeme w (Some (leaf (assertion a))) (Ok t) s q) there h)

-- what a text means, it means alone
pub one_meant : {x : Lexeme} {a b : Pattern} → IsMeant x a → IsMeant x b → b ≡ a
one_meant by_itself by_itself = refl
one_meant (by_edges {es = es} e h) (by_edges {es = fs} f k) = ap member_of (edges_unique fs es f e (fun_ext (λ c. k c ∙ sym (h c))))
one_meant (by_folding {es = es} e h) (by_folding {es = fs} f k) = ap in_any_case (edges_unique fs es f e (fun_ext (λ c. k c ∙ sym (h c))))

-- a class begins with a bracket, and no lexeme does
no_lexeme : (s : Scope) (t : Text) → is_at "[" t ≡ true → lexeme s t ≡ None
no_lexeme s [] h = refl
no_lexeme s (c ∷ t) h = subst (λ d. lexeme s (d ∷ t) ≡ None) (sym (char_is 91 c (left_of (91 == c) false h refl))) refl

-- an atom has one reading
pub one_atom : {s : Scope} {t u v : Text} {a b : Pattern} → ReadsAtom s t a u → ReadsAtom s t b v → (b ≡ a) × (v ≡ u)
one_atom {b = b} (by_lexeme h m) (by_lexeme k n) =
    let e = some_pair (sym k ∙ h) in
    (one_meant m (subst (λ x. IsMeant x b) e.0 n), e.1)
one_atom {s} {t} (by_lexeme h m) (by_class k n) = absurd (some_is_none (sym h ∙ no_lexeme s t k))
one_atom {s} {t} (by_class h m) (by_lexeme k n) = absurd (some_is_none (sym k ∙ no_lexeme s t h))
one_atom (by_class {es = es} h m) (by_class {es = fs} k n) =
    let o = one_class m.1 n.1 in
    (ap member_of (edges_unique fs es n.0 m.0 o.0), o.1)

-- with references
one_reading : {p q r : Place} {a b : Pattern} → IsAtom p a q → IsAtom p b r → (b ≡ a) × (r ≡ q)
one_reading {p} (alone h) (alone k) = let o = one_atom h k in (o.0, ap (start p.scope) o.1)
one_reading {p} (alone h) (refers k) = absurd (no_atom_begun (reference_begins p.scope.opened p.text k) h)
one_reading {p} (refers h) (alone k) = absurd (no_atom_begun (reference_begins p.scope.opened p.text h) k)
one_reading {p} (refers h) (refers k) = let e = some_pair (sym k ∙ h) in (refl, ap₂ (λ (w : Target) (t : Text). start (wants w p.scope) t) e.0 e.1)

pub the_atom : {p q : Place} {a : Pattern} → IsAtom p a q → IsTheReading IsAtom p a q
the_atom h = (h, λ b r k. one_reading h k)

-- the reference that a parser has read
pub the_reference : (p : Place) {q : Place} {w : Target} {t : Text} {a : Pattern} → read_reference p.scope.opened p.text ≡ Some (w, t) → a ≡ reference_here p.scope → q ≡ start (wants w p.scope) t → IsTheReading IsAtom p a q
the_reference p {q} h e there = subst (λ x. IsTheReading IsAtom p x q) (sym e) (subst (λ z. IsTheReading IsAtom p (reference_here p.scope) z) (sym there) (the_atom (refers h)))

pub no_reference_here : (p : Place) → begins_reference p.text ≡ true → read_reference p.scope.opened p.text ≡ None → HasNoReading IsAtom p
no_reference_here p h none a q (alone k) = no_atom_begun h k
no_reference_here p h none a q (refers k) = some_is_none (sym k ∙ none)

no_atom_here : {p : Place} → is_at "[" p.text ≡ false → begins_reference p.text ≡ false → lexeme p.scope p.text ≡ None → HasNoReading IsAtom p
no_atom_here h r none a q (alone (by_lexeme k m)) = some_is_none (sym k ∙ none)
no_atom_here h r none a q (alone (by_class k m)) = true_is_false (sym k ∙ h)
no_atom_here {p} h r none a q (refers k) = true_is_false (sym (reference_begins p.scope.opened p.text k) ∙ r)

pub atom_given : (r : Result Tree Error) (p q : Place) → is_at "[" p.text ≡ false → begins_reference p.text ≡ false → GivesMeant (lexeme p.scope p.text) r p q → Gives pattern_of IsAtom r p q
atom_given (Ok t) p q h r (x, found, meant, there) = subst (λ z. IsTheReading IsAtom p (pattern_of t) z) (sym there) (the_atom (alone (by_lexeme found meant)))
atom_given (Err Memory) p q h r none = tt
atom_given (Err (ParseError at kind)) p q h r none = no_atom_here h r none
atom_given (Err (CompileError why)) p q h r none = none
atom_given (Err (RuntimeError why)) p q h r none = none

no_class_here : {p : Place} → is_at "[" p.text ≡ true → ((es : List ℕ) (u : Text) → ReadsEdges p.scope.meaning p.scope.flags.ignore_case p.text es u → ⊥) → HasNoReading IsAtom p
no_class_here {p} h none a q (alone (by_lexeme k m)) = some_is_none (sym k ∙ no_lexeme p.scope p.text h)
no_class_here h none a q (alone (by_class k m)) = none _ _ m
no_class_here {p} h none a q (refers k) = true_is_false (sym h ∙ no_bracket_begun p.text (reference_begins p.scope.opened p.text k))

pub class_refused : (at : ℕ) (e : ClassRefusal) (p : Place) → is_at "[" p.text ≡ true → RefusesClass e (HasNoReading (ReadsEdges p.scope.meaning p.scope.flags.ignore_case) p.text) → MemoryOr (error_at at e) (HasNoReading IsAtom p)
class_refused at e p h none = refuses_too at e (no_class_here h) none
