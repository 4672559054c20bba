-- What the reader's loops and branches say of the grammar.
use Rattle.std.proofs.Common.{◌≡◌, ℕ, suc, ◌+◌, Bool, true, false, Some, None, drop, refl, sym, ap, ◌∙◌, subst, arith, add-one, Result, Err}
use mathlib.Core.Path.{fun_ext}
use Rattle.fancy_tree.specs.Text.{Text}
use Rattle.fancy_class.specs.Words.{is_at}
use Rattle.fancy_class.specs.ClassGrammar.{class_item, ends_operand, starts_class, may_negate, negate_if, item_members, none_of}
use Rattle.fancy_class.specs.ClassReading.{operator, is_bracket, class_opening, ClassReading, class, OperandItemsReading, none, next, OperandsReading, last, more, OperandItemReading, simple, nested}
use Rattle.fancy_class.specs.declared.class_item.ClassItem.{ClassItem}
use Rattle.fancy_class.specs.declared.refusal.ClassRefusal.{ClassRefusal}
use Rattle.fancy_class.specs.declared.refusal.ClassRefusal.TheVariants.{Memory, Invalid}
use Rattle.fancy_class.specs.ClassViews.{RefusesClass, ClassGives}
use Rattle.fancy_class.specs.Readings.{IsTheReading, HasNoReading}
use Rattle.fancy_tree.specs.Members.{Members, members, both, applied}
use Rattle.fancy_tree.specs.declared.operation.Operation.{Operation}
use Rattle.fancy_tree.specs.declared.tree.Meaning.{Meaning}
use Rattle.fancy_tree.proofs.Facts.{true_is_false, some_is_none, some_pair}

pub RefusesClass-weaker : (e : ClassRefusal) {A B : Type 0} → (A → B) → RefusesClass e A → RefusesClass e B
RefusesClass-weaker Memory f h = tt
RefusesClass-weaker (Invalid kind) f h = f h

module _ {X T : Type 0} (view : X → T) (R : Text → T → Text → Type 0) where
  -- the exit of a `?` on the reader's own error
  pub refused : (r : Result X ClassRefusal) (p q : Text) (y e : ClassRefusal) → r ≡ Err y → y ≡ e → RefusesClass e (HasNoReading R p) → ClassGives view R r p q
  refused r p q y e a b h = rw (a, b) h

-- the readings of one are those of the other
pub record GoesOn (R S : Members → Text → Type 0) : Type 0 where
  pub forth : (g : Members) (r : Text) → S g r → R g r
  pub back : (g : Members) (r : Text) → R g r → S g r

pub goes_on_here : (R : Members → Text → Type 0) → GoesOn R R
goes_on_here R = record { forth = λ g r h. h; back = λ g r h. h }

pub goes_on_then : {R S T : Members → Text → Type 0} → GoesOn R S → GoesOn S T → GoesOn R T
goes_on_then a b = record { forth = λ g r h. a.forth g r (b.forth g r h); back = λ g r h. b.back g r (a.back g r h) }

module _ {m : Meaning} {i : Bool} {k : ℕ} where
  -- ---- items
  pub items_start : {first : Bool} {f : Members} {p : Text} → f ≡ none_of → GoesOn (λ g r. OperandItemsReading m i k first none_of p g r) (λ g r. OperandItemsReading m i k first f p g r)
  items_start {first} {f} {p} e = record { forth = λ g r h. subst (λ x. OperandItemsReading m i k first x p g r) e h; back = λ g r h. subst (λ x. OperandItemsReading m i k first x p g r) (sym e) h }

  pub items_end : {first : Bool} {f g : Members} {p r : Text} → OperandItemsReading m i k first f p g r → ends_operand first p ≡ true → (g ≡ f) × (r ≡ p)
  items_end (none e) h = (refl, refl)
  items_end (next e x y) h = cc

  pub items_next : {first : Bool} {f g : Members} {p r : Text} → OperandItemsReading m i k first f p g r → ends_operand first p ≡ false → (x : Members) × (q : Text) × OperandItemReading m i k p x q × OperandItemsReading m i k false (both f x) q g r
  items_next (none e) h = cc
  items_next (next {x = x} {q = q} e a b) h = (x, q, a, b)

  pub items_step : {first : Bool} {f x new : Members} {p q : Text} → ends_operand first p ≡ false → IsTheReading (OperandItemReading m i k) p x q → new ≡ both f x →
      GoesOn (λ g r. OperandItemsReading m i k first f p g r) (λ g r. OperandItemsReading m i k false new q g r)
  items_step {first} {f} {x} {new} {p} {q} e h is = record {
    forth = λ g r y. next e h.0 (subst (λ z. OperandItemsReading m i k false z q g r) is y);
    back = λ g r y.
        let n = items_next y e in
        let o = h.1 n.0 n.1 n.2 in
        subst (λ z. OperandItemsReading m i k false z q g r) (sym is) (subst (λ s. OperandItemsReading m i k false (both f x) s g r) o.1 (subst (λ z. OperandItemsReading m i k false (both f z) n.1 g r) o.0 n.3));
  }

  pub no_item : {first : Bool} {f : Members} {p : Text} {R : Members → Text → Type 0} → GoesOn R (λ g r. OperandItemsReading m i k first f p g r) → ends_operand first p ≡ false → HasNoReading (OperandItemReading m i k) p → (g : Members) (r : Text) → R g r → ⊥
  no_item a e nothing g r y = let n = items_next (a.back g r y) e in nothing n.0 n.1 n.2

  pub items_are : {first : Bool} {f : Members} {p : Text} {R : Members → Text → Type 0} → GoesOn R (λ g r. OperandItemsReading m i k first f p g r) → ends_operand first p ≡ true → R f p × ((g : Members) (r : Text) → R g r → (g ≡ f) × (r ≡ p))
  items_are a e = (a.forth _ _ (none e), λ g r y. items_end (a.back g r y) e)

  pub items_done : {first : Bool} {f x : Members} {p : Text} {R : Members → Text → Type 0} → GoesOn R (λ g r. OperandItemsReading m i k first f p g r) → ends_operand first p ≡ true → x ≡ f → R x p × ((g : Members) (r : Text) → R g r → (g ≡ x) × (r ≡ p))
  items_done {first} {f} {x} {p} {R} a e is =
      let h = items_are a e in
      (subst (λ z. R z p) (sym is) h.0, λ g r y. let o = h.1 g r y in (o.0 ∙ sym is, o.1))

  -- ---- operands
  pub operands_last : {f g : Members} {p r : Text} → OperandsReading m i k f p g r → operator p ≡ None → (g ≡ f) × (r ≡ p)
  operands_last (last e) h = (refl, refl)
  operands_last (more e x y) h = absurd (some_is_none (sym e ∙ h))

  pub operands_more : {f g : Members} {p r q : Text} {how : Operation} → OperandsReading m i k f p g r → operator p ≡ Some (how, q) → (x : Members) × (s : Text) × OperandItemsReading m i k false none_of q x s × OperandsReading m i k (λ c. applied how (f c) (x c)) s g r
  operands_more (last e) h = absurd (some_is_none (sym h ∙ e))
  operands_more {f} {g} {p} {r} {q} {how} (more {x = x} {how = other} {q = t} {r = v} e a b) h =
      let o = some_pair (sym e ∙ h) in
      (x, v, subst (λ z. OperandItemsReading m i k false none_of z x v) o.1 a, subst (λ z. OperandsReading m i k (λ c. applied z (f c) (x c)) v g r) o.0 b)

  pub operands_step : {f x new : Members} {p q s : Text} {how : Operation} → operator p ≡ Some (how, q) → IsTheReading (λ u v w. OperandItemsReading m i k false none_of u v w) q x s → new ≡ (λ c. applied how (f c) (x c)) →
      GoesOn (λ g r. OperandsReading m i k f p g r) (λ g r. OperandsReading m i k new s g r)
  operands_step {f} {x} {new} {p} {q} {s} {how} e h is = record {
    forth = λ g r y. more e h.0 (subst (λ z. OperandsReading m i k z s g r) is y);
    back = λ g r y.
        let n = operands_more y e in
        let o = h.1 n.0 n.1 n.2 in
        subst (λ z. OperandsReading m i k z s g r) (sym is) (subst (λ z. OperandsReading m i k (λ c. applied how (f c) (x c)) z g r) o.1 (subst (λ (z : Members). OperandsReading m i k (λ c. applied how (f c) (z c)) n.1 g r) o.0 n.3));
  }

  -- the first operand, by members that are the same
  pub first_operand : {f g : Members} {p q : Text} → IsTheReading (λ u v w. OperandItemsReading m i k true none_of u v w) p f q → ((c : ℕ) → g c ≡ f c) → IsTheReading (λ u v w. OperandItemsReading m i k true none_of u v w) p g q
  first_operand {f} {g} {p} {q} h e = subst (λ x. IsTheReading (λ u v w. OperandItemsReading m i k true none_of u v w) p x q) (sym (fun_ext e)) h

  -- ---- one item
  pub simple_is : {p q : Text} {t : ClassItem} {x : Members} → starts_class p ≡ false → class_item m p ≡ Some (t, q) → x ≡ item_members m i t → IsTheReading (OperandItemReading m i k) p x q
  simple_is {p} {q} {t} {x} e found is = (subst (λ z. OperandItemReading m i k p z q) (sym is) (simple e found), λ u r y. only y)
    where
      only : {u : Members} {r : Text} → OperandItemReading m i k p u r → (u ≡ x) × (r ≡ q)
      only (simple h f) = let o = some_pair (sym f ∙ found) in (ap (item_members m i) o.0 ∙ sym is, o.1)
      only (nested h c) = absurd (true_is_false (sym h ∙ e))

  pub no_class_item : {p : Text} → starts_class p ≡ false → class_item m p ≡ None → HasNoReading (OperandItemReading m i k) p
  no_class_item e nothing u r (simple h f) = some_is_none (sym f ∙ nothing)
  no_class_item e nothing u r (nested h c) = true_is_false (sym h ∙ e)

  pub nested_is : {p q : Text} {x : Members} → starts_class p ≡ true → IsTheReading (ClassReading m i k) p x q → IsTheReading (OperandItemReading m i k) p x q
  nested_is {p} {q} {x} e h = (nested e h.0, λ u r y. only y)
    where
      only : {u : Members} {r : Text} → OperandItemReading m i k p u r → (u ≡ x) × (r ≡ q)
      only (simple s f) = absurd (true_is_false (sym e ∙ s))
      only (nested s c) = h.1 _ _ c

  pub nested_only : {p r : Text} {u : Members} → starts_class p ≡ true → OperandItemReading m i k p u r → ClassReading m i k p u r
  nested_only e (simple s f) = absurd (true_is_false (sym e ∙ s))
  nested_only e (nested s c) = c

  pub no_nested : {p : Text} → starts_class p ≡ true → HasNoReading (ClassReading m i k) p → HasNoReading (OperandItemReading m i k) p
  no_nested e nothing u r (simple s f) = true_is_false (sym e ∙ s)
  no_nested e nothing u r (nested s c) = nothing u r c

-- what is inside the brackets
pub record Inside (m : Meaning) (i : Bool) (k : ℕ) (p : Text) (u : Members) (s : Text) : Type 0 where
  pub room : ℕ
  pub first : Members
  pub middle : Text
  pub whole : Members
  pub end : Text
  pub deeper : k ≡ suc room
  pub may : may_negate m (class_opening p).0 ≡ true
  pub items : OperandItemsReading m i room true none_of (class_opening p).1 first middle
  pub operands : OperandsReading m i room first middle whole end
  pub closes : is_at "]" end ≡ true
  pub is : u ≡ negate_if m (class_opening p).0 whole
  pub rest : s ≡ drop 1 end

inside : {m : Meaning} {i : Bool} {k : ℕ} {p s : Text} {u : Members} → ClassReading m i k p u s → Inside m i k p u s
inside (class {k = k} {q = q} {r = r} {f = f} {g = g} a b c d e) =
    record { room = k; first = f; middle = q; whole = g; end = r; deeper = refl; may = b; items = c; operands = d; closes = e; is = refl; rest = refl }

pub no_turn : {m : Meaning} {i : Bool} {k : ℕ} {p : Text} {negated : Bool} {q : Text} → class_opening p ≡ (negated, q) → may_negate m negated ≡ false → HasNoReading (ClassReading m i k) p
no_turn {m} {i} {k} {p} {negated} {q} at h u s y = true_is_false (sym (inside y).may ∙ (ap (λ (o : Bool × Text). may_negate m o.0) at ∙ h))

pub no_room : {m : Meaning} {i : Bool} {k : ℕ} {p : Text} → k ≡ 0 → HasNoReading (ClassReading m i k) p
no_room z u s y = let n = (inside y).deeper in absurd (omega arith)

module _ {m : Meaning} {i : Bool} {k j : ℕ} {p q : Text} {negated : Bool} (starts : is_bracket p ≡ true) (at : class_opening p ≡ (negated, q)) (may : may_negate m negated ≡ true) (deeper : k ≡ j + 1) where
  pub body : {u : Members} {s : Text} → ClassReading m i k p u s → (f : Members) × (t : Text) × (g : Members) × (r : Text) × OperandItemsReading m i j true none_of q f t × OperandsReading m i j f t g r × (is_at "]" r ≡ true) × (u ≡ negate_if m negated g) × (s ≡ drop 1 r)
  body {u} {s} y =
      let n = inside y in
      let same : n.room ≡ j = omega (arith, n.deeper, deeper) in
      let there : (class_opening p).1 ≡ q = ap (λ (o : Bool × Text). o.1) at in (
        n.first,
        n.middle,
        n.whole,
        n.end,
        subst (λ z. OperandItemsReading m i z true none_of q n.first n.middle) same (subst (λ z. OperandItemsReading m i n.room true none_of z n.first n.middle) there n.items),
        subst (λ z. OperandsReading m i z n.first n.middle n.whole n.end) same n.operands,
        n.closes,
        n.is ∙ ap (λ (o : Bool × Text). negate_if m o.0 n.whole) at,
        n.rest,
      )

  pub no_items : HasNoReading (λ u v w. OperandItemsReading m i j true none_of u v w) q → HasNoReading (ClassReading m i k) p
  no_items nothing u s y = let b = body y in nothing b.0 b.1 b.4

  operands_of : {f : Members} {t : Text} → IsTheReading (λ u v w. OperandItemsReading m i j true none_of u v w) q f t → {u : Members} {s : Text} → ClassReading m i k p u s → (g : Members) × (r : Text) × OperandsReading m i j f t g r × (is_at "]" r ≡ true) × (u ≡ negate_if m negated g) × (s ≡ drop 1 r)
  operands_of {f} {t} h {u} {s} y =
      let b = body y in
      let o = h.1 b.0 b.1 b.4 in
      (b.2, b.3, subst (λ z. OperandsReading m i j f z b.2 b.3) o.1 (subst (λ z. OperandsReading m i j z b.1 b.2 b.3) o.0 b.5), b.6, b.7, b.8)

  pub no_operand : {f g : Members} {t r e : Text} {how : Operation} → IsTheReading (λ u v w. OperandItemsReading m i j true none_of u v w) q f t → GoesOn (λ x y. OperandsReading m i j f t x y) (λ x y. OperandsReading m i j g r x y)
      → operator r ≡ Some (how, e) → HasNoReading (λ u v w. OperandItemsReading m i j false none_of u v w) e → HasNoReading (ClassReading m i k) p
  no_operand h on op nothing u s y =
      let b = operands_of h y in
      let n = operands_more (on.back b.0 b.1 b.2) op in nothing n.0 n.1 n.2

  pub unclosed : {f g : Members} {t r : Text} → IsTheReading (λ u v w. OperandItemsReading m i j true none_of u v w) q f t → GoesOn (λ x y. OperandsReading m i j f t x y) (λ x y. OperandsReading m i j g r x y)
      → operator r ≡ None → is_at "]" r ≡ false → HasNoReading (ClassReading m i k) p
  unclosed h on op open_at u s y =
      let b = operands_of h y in
      let n = operands_last (on.back b.0 b.1 b.2) op in
      true_is_false (sym b.3 ∙ (ap (is_at "]") n.1 ∙ open_at))

  whole : {f g : Members} {t r : Text} (z : ℕ) → z ≡ j + 1 → OperandItemsReading m i j true none_of q f t → OperandsReading m i j f t g r → is_at "]" r ≡ true → ClassReading m i z p (negate_if m (class_opening p).0 g) (drop 1 r)
  whole {f} {g} {t} {r} z e a b closes =
      subst (λ n. ClassReading m i n p (negate_if m (class_opening p).0 g) (drop 1 r)) (sym (e ∙ add-one j))
      (class starts (ap (λ (o : Bool × Text). may_negate m o.0) at ∙ may) (subst (λ w. OperandItemsReading m i j true none_of w f t) (sym (ap (λ (o : Bool × Text). o.1) at)) a) b closes)

  pub class_is : {f g new : Members} {t r : Text} → IsTheReading (λ u v w. OperandItemsReading m i j true none_of u v w) q f t → GoesOn (λ x y. OperandsReading m i j f t x y) (λ x y. OperandsReading m i j g r x y)
      → operator r ≡ None → is_at "]" r ≡ true → new ≡ negate_if m negated g → IsTheReading (ClassReading m i k) p new (drop 1 r)
  class_is {f} {g} {new} {t} {r} h on op closes is = (
    subst (λ w. ClassReading m i k p w (drop 1 r)) (ap (λ (o : Bool × Text). negate_if m o.0 g) at ∙ sym is) (whole k deeper h.0 (on.forth g r (last op)) closes),
    λ u s y.
        let b = operands_of h y in
        let n = operands_last (on.back b.0 b.1 b.2) op in
        (b.4 ∙ (ap (negate_if m negated) n.0 ∙ sym is), b.5 ∙ ap (drop 1) n.1),
  )

-- a text has at most one reading
mutual
  pub one_class : {m : Meaning} {i : Bool} {k : ℕ} {p q r : Text} {f g : Members} → ClassReading m i k p f q → ClassReading m i k p g r → (g ≡ f) × (r ≡ q)
  one_class {m} {i} (class {k = j} {p = p} {f = f} starts may items operands closes) y =
      let b = body starts refl may (sym (add-one j)) y in
      let o = one_items items b.4 in
      let w = one_operands operands (subst (λ z. OperandsReading m i j f z b.2 b.3) o.1 (subst (λ z. OperandsReading m i j z b.1 b.2 b.3) o.0 b.5)) in
      (b.7 ∙ ap (negate_if m (class_opening p).0) w.0, b.8 ∙ ap (drop 1) w.1)

  pub one_items : {m : Meaning} {i : Bool} {k : ℕ} {first : Bool} {e f g : Members} {p q r : Text} → OperandItemsReading m i k first e p f q → OperandItemsReading m i k first e p g r → (g ≡ f) × (r ≡ q)
  one_items (none h) y = items_end y h
  one_items {m} {i} {k} {e = e} {g = g} {r = r} (next {x = x} h piece rest) y =
      let n = items_next y h in
      let o = one_piece piece n.2 in
      one_items rest (subst (λ s. OperandItemsReading m i k false (both e x) s g r) o.1 (subst (λ z. OperandItemsReading m i k false (both e z) n.1 g r) o.0 n.3))

  pub one_operands : {m : Meaning} {i : Bool} {k : ℕ} {e f g : Members} {p q r : Text} → OperandsReading m i k e p f q → OperandsReading m i k e p g r → (g ≡ f) × (r ≡ q)
  one_operands (last h) y = operands_last y h
  one_operands {m} {i} {k} {e = e} {g = g} {r = r} (more {x = x} {how = how} h items rest) y =
      let n = operands_more y h in
      let o = one_items items n.2 in
      one_operands rest (subst (λ s. OperandsReading m i k (λ c. applied how (e c) (x c)) s g r) o.1 (subst (λ (z : Members). OperandsReading m i k (λ c. applied how (e c) (z c)) n.1 g r) o.0 n.3))

  pub one_piece : {m : Meaning} {i : Bool} {k : ℕ} {f g : Members} {p q r : Text} → OperandItemReading m i k p f q → OperandItemReading m i k p g r → (g ≡ f) × (r ≡ q)
  one_piece (simple h found) y = (simple_is h found refl).1 _ _ y
  one_piece (nested h inner) y = one_class inner (nested_only h y)
