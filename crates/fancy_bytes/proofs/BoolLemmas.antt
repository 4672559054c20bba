-- Tests that hold together, or one of which holds.
use Rattle.std.proofs.Common.{◌≡◌, ℕ, zero, suc, ◌<◌, ◌≤◌, Bool, true, false, ◌&&◌, ◌||◌, ◌⊎◌, inl, inr, nat_le, nat_lt, refl, sym, arith, true≢false}
use Rattle.std.proofs.lemmas.Bool.{cases_eq}
use Rattle.std.proofs.lemmas.Bool.Decides.{nat_tests}
use Rattle.fancy_bytes.specs.Items.{some_below}

pub either_of : (a b : Bool) → (a || b) ≡ true → (a ≡ true) ⊎ (b ≡ true)
either_of true b e = inl refl
either_of false b e = inr e

pub first_holds : (a b : Bool) → a ≡ true → (a || b) ≡ true
first_holds true b e = refl
first_holds false b e = absurd (true≢false (sym e))

pub second_holds : (a b : Bool) → b ≡ true → (a || b) ≡ true
second_holds true b e = refl
second_holds false b e = e

pub both_hold : (a b : Bool) → a ≡ true → b ≡ true → (a && b) ≡ true
both_hold true b e f = f
both_hold false b e f = absurd (true≢false (sym e))

pub parts_of : (a b : Bool) → (a && b) ≡ true → (a ≡ true) × (b ≡ true)
parts_of true b e = (refl, e)
parts_of false b e = absurd (true≢false (sym e))

pub not_both : {A : Type 0} → (b : Bool) → b ≡ true → b ≡ false → A
not_both true e f = absurd (true≢false f)
not_both false e f = absurd (true≢false (sym e))

pub some_below_from : (n : ℕ) (test : ℕ → Bool) (c : ℕ) → c < n → test c ≡ true → some_below n test ≡ true
unfolding some_below
some_below_from zero test c lt e = absurd (omega arith)
some_below_from (suc n) test c lt e =
    elim (cases_eq c n) [
      | inl same ↦ first_holds (test n) (some_below n test) (rw (← same) e)
      | inr other ↦ second_holds (test n) (some_below n test) (some_below_from n test c (omega arith) e)
    ]

pub some_found : (n : ℕ) (test : ℕ → Bool) → some_below n test ≡ true → (c : ℕ) × (c < n) × (test c ≡ true)
unfolding some_below
some_found zero test e = absurd (true≢false (sym e))
some_found (suc n) test e =
    elim (either_of (test n) (some_below n test) e) [
      | inl here ↦ (n, omega arith, here)
      | inr below ↦ let c = some_found n test below in (c.0, omega (arith, c.1), c.2)
    ]

pub same_truths : (a b : Bool) → (a ≡ true → b ≡ true) → (b ≡ true → a ≡ true) → a ≡ b
same_truths true b to from = sym (to refl)
same_truths false true to from = from refl
same_truths false false to from = refl

pub or_assoc : (a b c : Bool) → ((a || b) || c) ≡ (a || (b || c))
or_assoc true b c = refl
or_assoc false b c = refl

pub or_nothing : (b : Bool) → (b || false) ≡ b
or_nothing true = refl
or_nothing false = refl

pub and_assoc : (a b c : Bool) → ((a && b) && c) ≡ (a && (b && c))
and_assoc true b c = refl
and_assoc false b c = refl

pub and_nothing : (b : Bool) → (b && true) ≡ b
and_nothing true = refl
and_nothing false = refl

pub and_never : (b : Bool) → (b && false) ≡ false
and_never true = refl
and_never false = refl

-- tests of order

pub le_holds : (a b : ℕ) → nat_le a b ≡ true → a ≤ b
le_holds a b e = grind (arith, nat_tests)

pub le_test : (a b : ℕ) → a ≤ b → nat_le a b ≡ true
le_test a b h = grind (arith, nat_tests)

pub le_fails : (a b : ℕ) → b < a → nat_le a b ≡ false
le_fails a b h = grind (arith, nat_tests)

pub lt_holds : (a b : ℕ) → nat_lt a b ≡ true → a < b
lt_holds a b e = grind (arith, nat_tests)

pub lt_test : (a b : ℕ) → a < b → nat_lt a b ≡ true
lt_test a b h = grind (arith, nat_tests)
