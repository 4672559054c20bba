-- The bytes that a set requires, by its members.
use Rattle.std.proofs.Common.{◌≡◌, ℕ, zero, suc, ◌+◌, ◌-◌, ◌<◌, ◌≤◌, ◌==◌, Bool, true, false, not, ◌&&◌, ◌||◌, nat_le, List, [], ◌∷◌, length, Some, None, refl, sym, ap, ◌∙◌, subst, arith, inl, inr, eq-eqb}
use Rattle.std.specs.Prelude.{if◌then◌else◌, slice_index}
use Rattle.std.proofs.lemmas.Bool.Decides.{nat_tests}
use Rattle.std.proofs.lemmas.Bool.{cases_eq, cases_lt}
use Rattle.fancy_tree.specs.declared.tree.Meaning.{Meaning}
use Rattle.fancy_tree.specs.Sets.{has, is_odd, AreRising}
use Rattle.fancy_tree.proofs.Facts.{true_is_false, char_is}
use Rattle.fancy_tree.proofs.EdgesLemmas.{has_count, is_odd-suc}
use Rattle.fancy_tree.proofs.CanonicalLemmas.{rising_unique}
use Rattle.fancy_bytes.specs.Items.{encoding, includes, is_item, is_in_one, is_in_each, is_in_all, one_member}
use Rattle.fancy_bytes.proofs.BoolLemmas.{both_hold, parts_of, le_test}
use Rattle.fancy_meaning.specs.ByteLaws.{StandsInOne}

-- ---- edges that rise
rising_tail : (e : ℕ) (es : List ℕ) → AreRising (e ∷ es) → AreRising es
rising_tail e es r = λ i j h lt. r (suc i) (suc j) (omega arith) (omega arith)

first_only : (e : ℕ) (es : List ℕ) (k : ℕ) → k < 1 → slice_index (e ∷ es) k ≤ e
first_only e es zero h = omega arith
first_only e es (suc k) h = absurd (omega arith)

has-first : (e : ℕ) (es : List ℕ) → AreRising (e ∷ es) → has (e ∷ es) e ≡ true
unfolding is_odd
has-first e es r = has_count (e ∷ es) 1 e (omega arith) (first_only e es) (λ k le lt. r 0 k (omega arith) lt)

first_least : (e : ℕ) (es : List ℕ) (c k : ℕ) → AreRising (e ∷ es) → c < e → k < length (e ∷ es) → c < slice_index (e ∷ es) k
first_least e es c zero r h lt = h
first_least e es c (suc k) r h lt = let up = r 0 (suc k) (omega arith) lt in omega arith

has-before : (e : ℕ) (es : List ℕ) (c : ℕ) → AreRising (e ∷ es) → c < e → has (e ∷ es) c ≡ false
unfolding is_odd
has-before e es c r h = has_count (e ∷ es) 0 c (omega arith) (λ k lt. absurd (omega arith)) (λ k le lt. first_least e es c k r h lt)

-- ---- literals in any case
has_byte : (item stands : Bool) → (item ≡ true → stands ≡ true) → (not item || stands) ≡ true
has_byte true stands h = h refl
has_byte false stands h = refl

each_of : (m : Meaning) (n c b : ℕ) → ((d : ℕ) → c ≤ d → d < c + n → is_item m d ≡ true → includes (encoding m d) b ≡ true) → is_in_each m n c b ≡ true
unfolding is_in_each
each_of m zero c b h = refl
each_of m (suc n) c b h =
    both_hold (not (is_item m c) || includes (encoding m c) b) (is_in_each m n (suc c) b)
    (has_byte (is_item m c) (includes (encoding m c) b) (h c (omega arith) (omega arith))) (each_of m n (suc c) b (λ d from to. h d (omega arith) (omega arith)))

not_not : (b : Bool) → not (not b) ≡ b
not_not true = refl
not_not false = refl

even_less : (n : ℕ) → is_odd (suc (suc n)) ≡ false → is_odd n ≡ false
even_less n o = sym (not_not (is_odd n)) ∙ sym (is_odd-suc (suc n) ∙ ap not (is_odd-suc n)) ∙ o

-- a member of a later part stands at or past the edge before
past_edge : (y : ℕ) (es : List ℕ) (c : ℕ) → AreRising (y ∷ es) → has es c ≡ true → y ≤ c
unfolding has
past_edge y [] c r e = absurd (true_is_false (sym e))
past_edge y (z ∷ zs) c r e =
    elim (cases_lt c z) [
      | inl below ↦ absurd (true_is_false (sym e ∙ has-before z zs c (rising_tail y (z ∷ zs) r) below))
      | inr from ↦ let rises : y < z = r 0 1 (omega arith) (omega arith) in omega arith
    ]

pub all_require : (m : Meaning) (es : List ℕ) (b : ℕ) → AreRising es → is_odd (length es) ≡ false
    → ((c : ℕ) → has es c ≡ true → is_item m c ≡ true → includes (encoding m c) b ≡ true) → is_in_all m es b ≡ true
unfolding has is_odd
all_require m [] b r o h = refl
all_require m (x ∷ []) b r o h = absurd (true_is_false o)
all_require m (x ∷ y ∷ es) b r o h =
    let rises : x < y = r 0 1 (omega arith) (omega arith) in
    let later : AreRising (y ∷ es) = rising_tail x (y ∷ es) r in
    both_hold (nat_le x y) (is_in_each m (y - x) x b && is_in_all m es b) (le_test x y (omega arith))
    (both_hold (is_in_each m (y - x) x b) (is_in_all m es b)
    (each_of m (y - x) x b (λ c from to. h c (rw (le_test x c from, has-before y es c later (omega arith)) refl)))
    (all_require m es b (rising_tail y es later) (even_less (length es) o)
    (λ c e. let past : y ≤ c = past_edge y es c later e in h c (rw (le_test x c (omega arith), le_test y c past, e) refl))))

-- ---- sets with one member
pair_has : (c d : ℕ) → has (c ∷ suc c ∷ []) d ≡ (d == c)
unfolding has
pair_has c d = grind (arith, nat_tests)

pair_rises : (c : ℕ) → AreRising (c ∷ suc c ∷ [])
pair_rises c zero zero lt within = absurd (omega arith)
pair_rises c zero (suc zero) lt within = omega arith
pair_rises c zero (suc (suc j)) lt within = absurd (omega arith)
pair_rises c (suc i) zero lt within = absurd (omega arith)
pair_rises c (suc i) (suc zero) lt within = absurd (omega arith)
pair_rises c (suc i) (suc (suc j)) lt within = absurd (omega arith)

pub one_requires : (m : Meaning) (es : List ℕ) (b : ℕ) → AreRising es → is_in_one m (one_member es) b ≡ true → StandsInOne m es b
one_requires m [] b r e = cc
one_requires m (x ∷ []) b r e = cc
one_requires m (x ∷ y ∷ z ∷ es) b r e = cc
one_requires m (x ∷ y ∷ []) b r e = go (y == suc x) refl e
  where
    go : (t : Bool) → (y == suc x) ≡ t → is_in_one m (if t then Some x else None) b ≡ true → StandsInOne m (x ∷ y ∷ []) b
    go true s e =
        let both = parts_of (is_item m x) (includes (encoding m x) b) e in
        record {
          member = x;
          is_member = has-first x (y ∷ []) r;
          alone = λ c here. sym (char_is c x (sym (pair_has x c) ∙ rw (char_is (suc x) y (grind (arith, nat_tests))) at here));
          item = both.0;
          stands = both.1;
        }
    go false s e = cc

pub one_required : (m : Meaning) (es : List ℕ) (b : ℕ) → AreRising es → StandsInOne m es b → is_in_one m (one_member es) b ≡ true
one_required m es b r h = subst (λ (l : List ℕ). is_in_one m (one_member l) b ≡ true) (sym same) (rw (eq-eqb (suc h.member) (suc h.member) refl) (both_hold (is_item m h.member) (includes (encoding m h.member) b) h.item h.stands))
  where
    told : (d : ℕ) → (t : Bool) → has es d ≡ t → t ≡ (d == h.member)
    told d true e = sym (eq-eqb d h.member (h.alone d e))
    told d false e =
        elim (cases_eq d h.member) [
          | inl here ↦ absurd (true_is_false (sym h.is_member ∙ ap (has es) (sym here) ∙ e))
          | inr other ↦ grind (arith, nat_tests)
        ]

    same : es ≡ h.member ∷ suc h.member ∷ []
    same = rising_unique es (h.member ∷ suc h.member ∷ []) r (pair_rises h.member) (λ d. told d (has es d) refl ∙ sym (pair_has h.member d))
