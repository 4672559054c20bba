-- A class that is spelled is read with the members that the grammar gives it, and what is read is spelled so.
use Rattle.std.proofs.Common.{◌≡◌, ℕ, suc, ◌&&◌, not, Bool, true, false, List, [], ◌∷◌, ◌++◌, drop, codes, Option, Some, None, cond, inl, inr, refl, sym, ap, ◌∙◌, subst, append_assoc, Result, Ok, Err}
use mathlib.Core.Path.{fun_ext}
use Rattle.fancy_tree.specs.Limits.{most_brackets}
use Rattle.fancy_tree.specs.Text.{Text}
use Rattle.fancy_class.specs.Words.{is_at, begins}
use Rattle.fancy_tree.specs.Sets.{has}
use Rattle.fancy_tree.specs.Members.{Members, members, edges_of, both, applied}
use Rattle.fancy_class.specs.ClassGrammar as d
use Rattle.fancy_class.specs.ClassGrammar.{is_ascii_meaning, may_negate, is_posix, starts_class, ends_operand, class_item, none_of, union_of, combine_all, negate_if, Operator, intersection, difference, symmetric_difference, ReadsClass, ReadsEdges}
use Rattle.fancy_class.specs.ClassReading as g
use Rattle.fancy_class.specs.ClassReading.{operator, class_opening}
use Rattle.fancy_class.specs.ClassViews.{ClassGives}
use Rattle.fancy_class.specs.declared.refusal.ClassRefusal.{ClassRefusal}
use Rattle.fancy_class.specs.declared.refusal.ClassRefusal.TheVariants.{Memory, Invalid}
use Rattle.fancy_tree.specs.declared.operation.Operation.{Operation}
use Rattle.fancy_tree.specs.declared.set.Set.{Set}
use Rattle.fancy_tree.specs.declared.tree.Meaning.{Meaning}
use Rattle.fancy_tree.proofs.Facts.{chosen, not_false, some_pair, some_is_none}
use Rattle.fancy_class.proofs.WordLemmas.{begins_with}
use Rattle.fancy_tree.proofs.CanonicalLemmas.{edges_unique}
use Rattle.fancy_class.proofs.WordLemmas.{first_is as at_char}
use Rattle.fancy_tree.proofs.EdgesLemmas.{or-false}
use Rattle.fancy_class.proofs.EndsLemmas.{ends_class_item}
use Rattle.fancy_class.proofs.ClassBuilderLemmas.{or_assoc}
use Rattle.fancy_class.proofs.ClassSteps as steps

-- the members so far, with no more items
with_none : (e : Members) → both e (union_of []) ≡ e
with_none e = fun_ext (λ c. or-false (e c))

-- with one more item, and then with others
with_next : (e f : Members) (fs : List Members) → both e (union_of (f ∷ fs)) ≡ both (both e f) (union_of fs)
with_next e f fs = fun_ext (λ c. or_assoc (e c) (f c) (union_of fs c))

-- ---- what is spelled is read
operator_read : {o : Text} {how : Operation} → Operator o how → (rest : Text) → operator (o ++ rest) ≡ Some (how, rest)
operator_read intersection rest = refl
operator_read difference rest = refl
operator_read symmetric_difference rest = refl

-- a class by what opens it
opened_by : {m : Meaning} {i : Bool} {k : ℕ} {p q t r : Text} {f w : Members} (negated : Bool) → is_at "[" p ≡ true → class_opening p ≡ (negated, q) → may_negate m negated ≡ true
    → g.OperandItemsReading m i k true none_of q f t → g.OperandsReading m i k f t w r → is_at "]" r ≡ true → g.ClassReading m i (suc k) p (negate_if m negated w) (drop 1 r)
opened_by {m} {i} {k} {p} {q} {t} {r} {f} {w} negated starts at may items operands closes =
    subst (λ n. g.ClassReading m i (suc k) p (negate_if m n w) (drop 1 r)) (ap (λ (o : Bool × Text). o.0) at)
    (g.class starts (ap (λ (o : Bool × Text). may_negate m o.0) at ∙ may) (subst (λ v. g.OperandItemsReading m i k true none_of v f t) (sym (ap (λ (o : Bool × Text). o.1) at)) items) operands closes)

abbrev opening_by : Bool → Text → Bool × Text
opening_by b t = cond {A = Bool × Text} b (true, drop 1 t) (false, t)

mutual
  read_class : {m : Meaning} {i : Bool} {k : ℕ} {t after : Text} {f : Members} → d.Class m i k t after f → g.ClassReading m i k (t ++ after) f after
  read_class {after = after} (d.unnegated upright (d.operands {t = t} {u = u} {fs = fs} items others)) =
      rw (append_assoc (t ++ u) (93 ∷ []) after, append_assoc t u (93 ∷ after))
      (opened_by false refl (ap (λ b. opening_by b (t ++ (u ++ 93 ∷ after))) (rw (append_assoc t u (93 ∷ after)) at upright)) refl
      (read_items none_of items) (read_others (union_of fs) others refl) refl)
  read_class {after = after} (d.negated may (d.operands {t = t} {u = u} {fs = fs} items others)) =
      rw (append_assoc (t ++ u) (93 ∷ []) after, append_assoc t u (93 ∷ after))
      (opened_by true refl refl (ap not may) (read_items none_of items) (read_others (union_of fs) others refl) refl)

  read_items : {m : Meaning} {i : Bool} {k : ℕ} {first : Bool} {t after : Text} {fs : List Members} (e : Members) → d.OperandItems m i k first t after fs → g.OperandItemsReading m i k first e (t ++ after) (both e (union_of fs)) after
  read_items {m} {i} {k} {first} {after = after} e (d.no_item h) = subst (λ f. g.OperandItemsReading m i k first e after f after) (sym (with_none e)) (g.none h)
  read_items {m} {i} {k} {first} {after = after} e (d.item {t = t} {u = u} {f = f} {fs = fs} h item items) =
      rw (append_assoc t u after)
      (subst (λ x. g.OperandItemsReading m i k first e (t ++ (u ++ after)) x after) (sym (with_next e f fs)) (g.next h (read_item item) (read_items (both e f) items)))

  read_others : {m : Meaning} {i : Bool} {k : ℕ} {t after : Text} {os : List (Operation × Members)} (e : Members) → d.Others m i k t after os → operator after ≡ None → g.OperandsReading m i k e (t ++ after) (combine_all e os) after
  read_others e d.no_other h = g.last h
  read_others {after = after} e (d.other {o = o} {t = t} {u = u} {how = how} {fs = fs} is items others) h =
      rw (append_assoc o (t ++ u) after, append_assoc t u after)
      (g.more (operator_read is (t ++ (u ++ after))) (read_items none_of items) (read_others (λ c. applied how (e c) (union_of fs c)) others h))

  read_item : {m : Meaning} {i : Bool} {k : ℕ} {t after : Text} {f : Members} → d.OperandItem m i k t after f → g.OperandItemReading m i k (t ++ after) f after
  read_item (d.simple h found) = g.simple h found
  read_item (d.nested h inner) = g.nested (class_starts inner h) (read_class inner)

  -- a class begins with a bracket
  class_starts : {m : Meaning} {i : Bool} {k : ℕ} {t after : Text} {f : Members} → d.Class m i k t after f → is_posix (t ++ after) ≡ false → starts_class (t ++ after) ≡ true
  class_starts (d.unnegated upright inner) h = ap not h
  class_starts (d.negated may inner) h = ap not h

-- ---- what is read is spelled
record OperatorSpelled (p : Text) (how : Operation) (q : Text) : Type 0 where
  word : Text
  is : p ≡ word ++ q
  spelled : Operator word how

operator_spelled : (p : Text) {how : Operation} {q : Text} → operator p ≡ Some (how, q) → OperatorSpelled p how q
operator_spelled p {how} {q} h =
    elim (chosen (begins "&&" p) _ _ _ h) [
      | inl x ↦ is_it x.1 (record { word = codes "&&"; is = begins_with (codes "&&") p x.0; spelled = intersection })
      | inr x ↦ elim (chosen (begins "--" p) _ _ _ x.1) [
        | inl x ↦ is_it x.1 (record { word = codes "--"; is = begins_with (codes "--") p x.0; spelled = difference })
        | inr x ↦ elim (chosen (begins "~~" p) _ _ _ x.1) [
          | inl x ↦ is_it x.1 (record { word = codes "~~"; is = begins_with (codes "~~") p x.0; spelled = symmetric_difference })
          | inr x ↦ absurd (some_is_none (sym x.1))
        ]
      ]
    ]
  where
    is_it : {a : Operation} {r : Text} → ◌≡◌ {A = Option (Operation × Text)} (Some (a, r)) (Some (how, q)) → OperatorSpelled p a r → OperatorSpelled p how q
    is_it {a} {r} s o = let e = some_pair s in subst (λ x. OperatorSpelled p x q) e.0 (subst (λ y. OperatorSpelled p a y) e.1 o)

-- what is spelled of a text, up to an end of it
abbrev Spelled : (Text → Type 0) → Text → Text → Type 0
Spelled S p q = (t : Text) × (p ≡ t ++ q) × S t

starts_parts : (p : Text) → starts_class p ≡ true → is_posix p ≡ false
starts_parts p h = go (is_at "[" p) (is_posix p) h
  where
    go : (a b : Bool) → (a && not b) ≡ true → b ≡ false
    go true true h = cc
    go true false h = refl
    go false b h = cc

-- the brackets, and perhaps `^`, round what is spelled
enclosed : {m : Meaning} {i : Bool} {k : ℕ} {f : Members} (t v rest : Text) (b : Bool) → is_at "^" t ≡ b → may_negate m (opening_by b t).0 ≡ true → (opening_by b t).1 ≡ v ++ 93 ∷ rest → d.Operands m i k v (93 ∷ rest) f
    → Spelled (λ w. d.Class m i (suc k) w rest (negate_if m (opening_by b t).0 f)) (91 ∷ t) rest
enclosed {m} t v rest true e may is o =
    (91 ∷ 94 ∷ (v ++ 93 ∷ []), ap (λ l. 91 ∷ l) (at_char 94 t e ∙ ap (λ l. 94 ∷ l) (is ∙ sym (append_assoc v (93 ∷ []) rest))), d.negated (not_false (is_ascii_meaning m) may) o)
enclosed t v rest false e may is o = (91 ∷ (v ++ 93 ∷ []), ap (λ l. 91 ∷ l) (is ∙ sym (append_assoc v (93 ∷ []) rest)), d.unnegated (ap (is_at "^") (sym is) ∙ e) o)

mutual
  spell_class : {m : Meaning} {i : Bool} {k : ℕ} {p q : Text} {f : Members} → g.ClassReading m i k p f q → Spelled (λ t. d.Class m i k t q f) p q
  spell_class {m} {i} (g.class {k = k} {p = p} {q = q} {r = r} {g = w} starts may items operands closes) =
      let x = spell_items items in
      let y = spell_others operands in
      let begins : p ≡ 91 ∷ drop 1 p = at_char 91 p starts in
      let ends : r ≡ 93 ∷ drop 1 r = at_char 93 r closes in
      let at : class_opening p ≡ opening_by (is_at "^" (drop 1 p)) (drop 1 p) = ap class_opening begins in
      let inside : (opening_by (is_at "^" (drop 1 p)) (drop 1 p)).1 ≡ (x.0 ++ y.0) ++ 93 ∷ drop 1 r = ap (λ (o : Bool × Text). o.1) (sym at) ∙ x.1 ∙ (ap (λ l. x.0 ++ l) (y.1 ∙ ap (λ l. y.0 ++ l) ends) ∙ sym (append_assoc x.0 y.0 (93 ∷ drop 1 r))) in
      let is : combine_all (union_of x.2) y.2 ≡ w = ap (λ h. combine_all h y.2) (sym x.4) ∙ sym y.4 in
      let o : d.Operands m i k (x.0 ++ y.0) (93 ∷ drop 1 r) w =
      subst (λ l. d.Operands m i k (x.0 ++ y.0) l w) ends (subst (λ h. d.Operands m i k (x.0 ++ y.0) r h) is (d.operands (subst (λ l. d.OperandItems m i k true x.0 l x.2) y.1 x.3) y.3)) in
      subst (λ l. Spelled (λ t. d.Class m i (suc k) t (drop 1 r) (negate_if m (class_opening l).0 w)) l (drop 1 r)) (sym begins)
      (enclosed (drop 1 p) (x.0 ++ y.0) (drop 1 r) (is_at "^" (drop 1 p)) refl (ap (λ (o : Bool × Text). may_negate m o.0) (sym at) ∙ may) inside o)

  spell_items : {m : Meaning} {i : Bool} {k : ℕ} {first : Bool} {e f : Members} {p q : Text} → g.OperandItemsReading m i k first e p f q
      → (t : Text) × (p ≡ t ++ q) × (fs : List Members) × d.OperandItems m i k first t q fs × (f ≡ both e (union_of fs))
  spell_items {e = e} (g.none h) = ([], refl, [], d.no_item h, sym (with_none e))
  spell_items {m} {i} {k} {first} {e = e} {q = q} (g.next {x = f} {p = p} h item items) =
      let x = spell_item item in
      let y = spell_items items in
      let is : p ≡ x.0 ++ (y.0 ++ q) = x.1 ∙ ap (λ l. x.0 ++ l) y.1 in
      (x.0 ++ y.0, is ∙ sym (append_assoc x.0 y.0 q), f ∷ y.2, d.item (ap (ends_operand first) (sym is) ∙ h) (subst (λ l. d.OperandItem m i k x.0 l f) y.1 x.2) y.3, y.4 ∙ sym (with_next e f y.2))

  spell_others : {m : Meaning} {i : Bool} {k : ℕ} {e f : Members} {p q : Text} → g.OperandsReading m i k e p f q
      → (t : Text) × (p ≡ t ++ q) × (os : List (Operation × Members)) × d.Others m i k t q os × (f ≡ combine_all e os)
  spell_others (g.last h) = ([], refl, [], d.no_other, refl)
  spell_others {m} {i} {k} {e = e} {q = s} (g.more {how = how} {p = p} h items operands) =
      let o = operator_spelled p h in
      let x = spell_items items in
      let y = spell_others operands in (
        o.word ++ (x.0 ++ y.0),
        o.is ∙ (ap (λ l. o.word ++ l) (x.1 ∙ (ap (λ l. x.0 ++ l) y.1 ∙ sym (append_assoc x.0 y.0 s))) ∙ sym (append_assoc o.word (x.0 ++ y.0) s)),
        (how, union_of x.2) ∷ y.2,
        d.other o.spelled (subst (λ l. d.OperandItems m i k false x.0 l x.2) y.1 x.3) y.3,
        y.4 ∙ ap (λ (f : Members). combine_all (λ c. applied how (e c) (f c)) y.2) x.4,
      )

  spell_item : {m : Meaning} {i : Bool} {k : ℕ} {p q : Text} {f : Members} → g.OperandItemReading m i k p f q → Spelled (λ t. d.OperandItem m i k t q f) p q
  spell_item {m} (g.simple {p = p} {q = q} {t = x} h found) =
      let e = ends_class_item m p found in
      (e.front, e.is, d.simple (ap starts_class (sym e.is) ∙ h) (ap (class_item m) (sym e.is) ∙ found))
  spell_item (g.nested {p = p} h inner) =
      let x = spell_class inner in
      (x.0, x.1, d.nested (ap is_posix (sym x.1) ∙ starts_parts p h) x.2)

class_read : {m : Meaning} {i : Bool} {p q : Text} {f : Members} → ReadsClass m i p f q → g.ClassReading m i most_brackets p f q
class_read {m} {i} {q = q} {f = f} x = subst (λ t. g.ClassReading m i most_brackets t f q) (sym x.is) (read_class x.spelled)

class_spelled : {m : Meaning} {i : Bool} {p q : Text} {f : Members} → g.ClassReading m i most_brackets p f q → ReadsClass m i p f q
class_spelled h = let x = spell_class h in record { class = x.0; is = x.1; spelled = x.2 }

pub gives_class : (m : Meaning) (i : Bool) (r : Result Set ClassRefusal) (p q : Text) → ClassGives members (g.ClassReading m i most_brackets) r p q → ClassGives members (ReadsClass m i) r p q
gives_class m i (Ok s) p q h = (class_spelled h.0, λ u v y. h.1 u v (class_read y))
gives_class m i (Err Memory) p q h = tt
gives_class m i (Err (Invalid kind)) p q h = λ u v y. h u v (class_read y)

pub gives_edges : (m : Meaning) (i : Bool) (r : Result Set ClassRefusal) (p q : Text) → ClassGives members (ReadsClass m i) r p q → ClassGives edges_of (ReadsEdges m i) r p q
gives_edges m i (Ok s) p q h = ((s.are_edges, h.0), λ u v y. let o = h.1 (has u) v y.1 in (edges_unique u (edges_of s) y.0 s.are_edges o.0, o.1))
gives_edges m i (Err Memory) p q h = tt
gives_edges m i (Err (Invalid kind)) p q h = λ u v y. h (has u) v y.1

-- a text has at most one reading
pub one_class : {m : Meaning} {i : Bool} {p q r : Text} {f g : Members} → ReadsClass m i p f q → ReadsClass m i p g r → (g ≡ f) × (r ≡ q)
one_class x y = steps.one_class (class_read x) (class_read y)
