-- Sums over the numbers below one.
use Rattle.std.proofs.Common.{◌≡◌, ℕ, zero, suc, ◌+◌, ◌*◌, ◌<◌, ◌≤◌, ◌⊎◌, refl, sym, ap, subst, arith, inl, inr}
use Rattle.std.proofs.lemmas.Bool.{cases_eq}
use Rattle.fancy_code.specs.Marking.{sum_to}

pub sum_le : (f g : ℕ → ℕ) (n : ℕ) → ((k : ℕ) → f k ≤ g k) → sum_to f n ≤ sum_to g n
sum_le f g zero h = omega arith
sum_le f g (suc n) h = omega (arith, sum_le f g n h, h n)

last_or_before : (j n : ℕ) → j < suc n → (j < n) ⊎ (j ≡ n)
last_or_before zero zero h = inr refl
last_or_before zero (suc n) h = inl (omega arith)
last_or_before (suc j) zero h = absurd (omega arith)
last_or_before (suc j) (suc n) h = elim (last_or_before j n (omega arith)) [ inl lt ↦ inl (omega arith) | inr e ↦ inr (omega arith) ]

-- one term is less by d
pub sum_less : (f g : ℕ → ℕ) (d j n : ℕ) → ((k : ℕ) → f k ≤ g k) → j < n → f j + d ≤ g j → sum_to f n + d ≤ sum_to g n
sum_less f g d j zero h lt less = absurd (omega arith)
sum_less f g d j (suc n) h lt less =
    elim (last_or_before j n lt) [
      | inl before ↦ omega (arith, sum_less f g d j n h before less, h n)
      | inr same ↦ omega (arith, sum_le f g n h, subst (λ (k : ℕ). f k + d ≤ g k) same less)
    ]

sum_le_before : (f g : ℕ → ℕ) (n : ℕ) → ((k : ℕ) → k < n → f k ≤ g k) → sum_to f n ≤ sum_to g n
sum_le_before f g zero h = omega arith
sum_le_before f g (suc n) h = omega (arith, sum_le_before f g n (λ k lt. h k (omega arith)), h n (omega arith))

-- one term alone is more, by d at most
pub sum_one : (f g : ℕ → ℕ) (d j n : ℕ) → ((k : ℕ) → (k ≡ j → ⊥) → f k ≤ g k) → f j ≤ g j + d → sum_to f n ≤ sum_to g n + d
sum_one f g d j zero others one = omega arith
sum_one f g d j (suc n) others one =
    elim (cases_eq n j) [
      | inl same ↦
          omega (arith, sum_le_before f g n (λ k lt. others k (λ e. absurd (omega (arith, e, same, lt)))), subst (λ (k : ℕ). f k ≤ g k + d) (sym same) one)
      | inr apart ↦ omega (arith, sum_one f g d j n others one, others n apart)
    ]

pub sum_most : (f : ℕ → ℕ) (c n : ℕ) → ((k : ℕ) → f k ≤ c) → sum_to f n ≤ n * c
sum_most f c zero h = omega arith
sum_most f c (suc n) h = omega (arith, sum_most f c n h, h n)

-- one more term
pub sum_more : (f : ℕ → ℕ) (n : ℕ) → sum_to f (n + 1) ≡ sum_to f n + f n
sum_more f n = let same : n + 1 ≡ suc n = omega arith in ap (sum_to f) same
