-- Classes as they are read: from one place to another, item by item and operand by operand, with the members so far. Lemmas show that this reading and `ClassGrammar` give the same members.
use Rattle.std.specs.Prelude.{◌≡◌, ℕ, suc, Bool, true, false, drop, Option, Some, None, if◌then◌else◌}
use Rattle.fancy_tree.specs.Text.{Text}
use Rattle.fancy_class.specs.Words.{is_at, begins}
use Rattle.fancy_tree.specs.Members.{Members, both, applied}
use Rattle.fancy_class.specs.ClassGrammar.{may_negate, class_item, item_members, ends_operand, starts_class, negate_if, none_of}
use Rattle.fancy_class.specs.declared.class_item.ClassItem.{ClassItem}
use Rattle.fancy_tree.specs.declared.tree.Meaning.{Meaning}
use Rattle.fancy_tree.specs.declared.operation.Operation.{Operation}
use Rattle.fancy_tree.specs.declared.operation.Operation.TheVariants.{Intersection, Difference, SymmetricDifference}

abbrev pub is_bracket : Text → Bool
is_bracket t = is_at "[" t

-- the operator that stands here, and what follows it
abbrev pub operator : Text → Option (Operation × Text)
operator p =
    if begins "&&" p then Some (Intersection, drop 2 p)
    else if begins "--" p then Some (Difference, drop 2 p)
    else if begins "~~" p then Some (SymmetricDifference, drop 2 p)
    else None

-- after the bracket, whether `^` stands there, and the place of the first item
abbrev pub class_opening : Text → Bool × Text
class_opening t = if is_at "^" (drop 1 t) then (true, drop 2 t) else (false, drop 1 t)

-- The number says how many brackets more may be open at one place.
mutual
  -- a class, from its bracket to the place after the other one
  pub data ClassReading : Meaning → Bool → ℕ → Text → Members → Text → Type 0 where
    class : {m : Meaning} {i : Bool} {k : ℕ} {p q r : Text} {f g : Members} → is_bracket p ≡ true → may_negate m (class_opening p).0 ≡ true → OperandItemsReading m i k true none_of (class_opening p).1 f q → OperandsReading m i k f q g r → is_at "]" r ≡ true
        → ClassReading m i (suc k) p (negate_if m (class_opening p).0 g) (drop 1 r)

  -- the items up to an operator or the end, after others with these members
  pub data OperandItemsReading : Meaning → Bool → ℕ → Bool → Members → Text → Members → Text → Type 0 where
    none : {m : Meaning} {i : Bool} {k : ℕ} {first : Bool} {f : Members} {p : Text} → ends_operand first p ≡ true → OperandItemsReading m i k first f p f p
    next : {m : Meaning} {i : Bool} {k : ℕ} {first : Bool} {f g x : Members} {p q r : Text} → ends_operand first p ≡ false → OperandItemReading m i k p x q → OperandItemsReading m i k false (both f x) q g r → OperandItemsReading m i k first f p g r

  -- the operators and what follows each, after a set
  pub data OperandsReading : Meaning → Bool → ℕ → Members → Text → Members → Text → Type 0 where
    last : {m : Meaning} {i : Bool} {k : ℕ} {f : Members} {p : Text} → operator p ≡ None → OperandsReading m i k f p f p
    more : {m : Meaning} {i : Bool} {k : ℕ} {f g x : Members} {how : Operation} {p q r s : Text} → operator p ≡ Some (how, q) → OperandItemsReading m i k false none_of q x r → OperandsReading m i k (λ c. applied how (f c) (x c)) r g s → OperandsReading m i k f p g s

  pub data OperandItemReading : Meaning → Bool → ℕ → Text → Members → Text → Type 0 where
    simple : {m : Meaning} {i : Bool} {k : ℕ} {p q : Text} {t : ClassItem} → starts_class p ≡ false → class_item m p ≡ Some (t, q) → OperandItemReading m i k p (item_members m i t) q
    nested : {m : Meaning} {i : Bool} {k : ℕ} {p q : Text} {f : Members} → starts_class p ≡ true → ClassReading m i k p f q → OperandItemReading m i k p f q
