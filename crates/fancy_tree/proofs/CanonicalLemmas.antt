-- A set has one list of edges.
use Rattle.std.proofs.Common.{◌≡◌, ℕ, zero, suc, ◌<◌, ◌≤◌, inl, inr, Bool, true, false, nat_le, List, [], ◌∷◌, length, slice_index, refl, sym, ap, ap₂, ◌∙◌, arith, suc-le-suc, zero-lt-suc, not-suc-le-zero}
use Rattle.std.proofs.lemmas.Bool.{cases_lt}
use Rattle.fancy_tree.specs.Sets.{differ, has, is_odd, AreRising, AreEdges}
use Rattle.fancy_tree.proofs.EdgesLemmas.{has_count}

rising_tail : (e : ℕ) (es : List ℕ) → AreRising (e ∷ es) → AreRising es
rising_tail e es r = λ i j h lt. r (suc i) (suc j) (suc-le-suc h) (suc-le-suc lt)

first_only : (e : ℕ) (es : List ℕ) (k : ℕ) → k < 1 → slice_index (e ∷ es) k ≤ e
first_only e es zero h = omega arith
first_only e es (suc k) h = absurd (omega arith)

first_least : (e : ℕ) (es : List ℕ) (c k : ℕ) → AreRising (e ∷ es) → c < e → k < length (e ∷ es) → c < slice_index (e ∷ es) k
first_least e es c zero r h lt = h
first_least e es c (suc k) r h lt = let up = r 0 (suc k) (zero-lt-suc k) lt in omega arith

has-first : (e : ℕ) (es : List ℕ) → AreRising (e ∷ es) → has (e ∷ es) e ≡ true
unfolding is_odd
has-first e es r = has_count (e ∷ es) 1 e (omega arith) (first_only e es) (λ k le lt. r 0 k le lt)

has-before : (e : ℕ) (es : List ℕ) (c : ℕ) → AreRising (e ∷ es) → c < e → has (e ∷ es) c ≡ false
unfolding is_odd
has-before e es c r h = has_count (e ∷ es) 0 c (omega arith) (λ k lt. absurd (not-suc-le-zero lt)) (λ k le lt. first_least e es c k r h lt)

true_is_false : true ≡ false → ⊥
true_is_false h = cc

differ_cancels : (x y z : Bool) → differ x y ≡ differ x z → y ≡ z
differ_cancels true true true h = refl
differ_cancels true true false h = cc
differ_cancels true false true h = cc
differ_cancels true false false h = refl
differ_cancels false y z h = h

-- lists that rise and have the same members are equal
pub rising_unique : (es fs : List ℕ) → AreRising es → AreRising fs → ((c : ℕ) → has es c ≡ has fs c) → es ≡ fs
unfolding has
rising_unique [] [] r s h = refl
rising_unique [] (f ∷ fs) r s h = absurd (true_is_false (sym (has-first f fs s) ∙ sym (h f)))
rising_unique (e ∷ es) [] r s h = absurd (true_is_false (sym (has-first e es r) ∙ h e))
rising_unique (e ∷ es) (f ∷ fs) r s h =
    elim (cases_lt e f) [
      | inl lt ↦ absurd (true_is_false (sym (has-first e es r) ∙ (h e ∙ has-before f fs e s lt)))
      | inr ge ↦
          elim (cases_lt f e) [
            | inl lt ↦ absurd (true_is_false (sym (has-first f fs s) ∙ (sym (h f) ∙ has-before e es f r lt)))
            | inr le ↦
                let same : e ≡ f = omega arith in
                ap₂ ◌∷◌ same (rising_unique es fs (rising_tail e es r) (rising_tail f fs s) (λ c. differ_cancels (nat_le e c) (has es c) (has fs c) (h c ∙ ap (λ n. differ (nat_le n c) (has fs c)) (sym same))))
          ]
    ]

pub edges_unique : (es fs : List ℕ) → AreEdges es → AreEdges fs → has es ≡ has fs → es ≡ fs
edges_unique es fs a b h = rising_unique es fs a.rising b.rising (λ c. ap (λ (m : ℕ → Bool). m c) h)
