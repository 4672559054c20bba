-- Small facts of truth values, options and numbers that many proofs need.
use Rattle.std.proofs.Common.{◌≡◌, ℕ, ◌==◌, ◌||◌, ◌&&◌, not, Bool, true, false, Some, None, refl, ap, arith, ◌⊎◌, inl, inr, cond}
use Rattle.std.proofs.lemmas.Bool.Decides.{nat_tests}

pub true_is_false : true ≡ false → ⊥
true_is_false h = cc

pub some_is_none : {A : Type 0} {x : A} → Some x ≡ None → ⊥
some_is_none h = cc

pub some_pair : {A B : Type 0} {x y : A × B} → Some x ≡ Some y → (x.0 ≡ y.0) × (x.1 ≡ y.1)
some_pair {A} {B} {x} {y} h = let e : x ≡ y = cc in (ap (λ (p : A × B). p.0) e, ap (λ (p : A × B). p.1) e)

pub either_no : (a b : Bool) → (a || b) ≡ false → (a ≡ false) × (b ≡ false)
either_no true b h = cc
either_no false b h = (refl, h)

pub both_true : (a b : Bool) → (a && b) ≡ true → (a ≡ true) × (b ≡ true)
both_true true b h = (refl, h)
both_true false b h = cc

pub left_of : (a b : Bool) → (a || b) ≡ true → b ≡ false → a ≡ true
left_of true b h f = refl
left_of false true h f = cc
left_of false false h f = cc

pub not_false : (b : Bool) → not b ≡ true → b ≡ false
not_false true h = cc
not_false false h = refl

-- which way a test went
pub chosen : {A : Type 0} (b : Bool) (x y z : A) → cond b x y ≡ z → ((b ≡ true) × (x ≡ z)) ⊎ ((b ≡ false) × (y ≡ z))
chosen true x y z h = inl (refl, h)
chosen false x y z h = inr (refl, h)

pub same_some : {A : Type 0} {x y : A} → Some x ≡ Some y → x ≡ y
same_some h = cc

pub char_is : (d c : ℕ) → (d == c) ≡ true → c ≡ d
char_is d c h = grind (arith, nat_tests)
