-- Units before a place.
use Rattle.std.proofs.Common.{◌≡◌, ℕ, zero, suc, ◌<◌, Some, None, refl, sym, ap, subst, arith}
use Rattle.fancy_meaning.specs.Context.{Context, previous_in, units_back}

pub back_none : (x : Context) (n p : ℕ) → 0 < n → p ≡ 0 → units_back x n p ≡ None
unfolding units_back
back_none x zero p h e = absurd (omega arith)
back_none x (suc n) zero h e = refl
back_none x (suc n) (suc p) h e = absurd (omega arith)

pub back_step : (x : Context) (n m p q : ℕ) → n ≡ suc m → 0 < p → q ≡ previous_in x.meaning x.haystack p → units_back x n p ≡ units_back x m q
unfolding units_back
back_step x n m zero q e h same = absurd (omega arith)
back_step x n m (suc p) q e h same =
    subst (λ (j : ℕ). units_back x j (suc p) ≡ units_back x m q) (sym e) (ap (units_back x m) (sym same))

pub back_over : (x : Context) (n p : ℕ) → n ≡ 0 → units_back x n p ≡ Some p
unfolding units_back
back_over x n p e = ap (λ (j : ℕ). units_back x j p) e
