-- Lemmas on the pairs that begin with one number.
use Rattle.std.proofs.Common.{◌≡◌, ℕ, zero, suc, ◌+◌, ◌-◌, ◌<◌, ◌≤◌, ◌==◌, inl, inr, Bool, true, false, ◌&&◌, ◌||◌, nat_lt, nat_le, List, [], ◌∷◌, map, take, drop, length, get_or, Contains, refl, sym, ap, ap₂, ◌∙◌, subst, arith, eqb-true, zero-lt-suc, suc-le-suc, le_of_suc-le-suc, not-suc-le-zero}
use Rattle.std.specs.List.{list_any}
use Rattle.std.specs.List.Sorted.{IsNonDecreasingBy}
use Rattle.std.proofs.lemmas.List.{get_or-take, get_or-drop, length-take, length-drop, get_or_default}
use Rattle.std.proofs.lemmas.Bool.{cases_lt, and_parts, or_cases}
use Rattle.std.proofs.lemmas.Bool.Decides.{nat_tests}
use Rattle.unicode.specs.Rows.{in_ranges}
use Rattle.ucd_case.specs.CaseFolding.{fold_pairs, IsFoldPairs}
use Rattle.ucd_case.proofs.BoundLemmas.{pairs_rise, pairs_rise-fold_pairs}
use Rattle.ucd_case.proofs.FoldPairsLemmas.{IsFoldPairs-fold_pairs}
use Rattle.fancy_tree.specs.Sets.{in_range}
use Rattle.fancy_tree.specs.Widening.{in_pairs}
use Rattle.fancy_tree.specs.SetViews.{PairsCut, first_of, second_alone}
use Rattle.fancy_tree.proofs.SetLemmas.{in_pairs-some, some-in_pairs, pairs_within, fold_pairs_within}

first_le : (a b c d : ℕ) → (nat_lt a b || ((a == b) && nat_lt c d)) ≡ true → a ≤ b
first_le a b c d h = grind (arith, nat_tests)

above_last : (last : ℕ × ℕ) (ps : List (ℕ × ℕ)) (j : ℕ) (d : ℕ × ℕ) → pairs_rise last ps ≡ true → j < length ps → last.0 ≤ (get_or ps j d).0
unfolding pairs_rise
above_last last [] j d h lt = absurd (not-suc-le-zero lt)
above_last last (p ∷ ps) zero d h lt = first_le last.0 p.0 last.1 p.1 (and_parts _ (pairs_rise p ps) h).0
above_last last (p ∷ ps) (suc j) d h lt =
    let t = and_parts _ (pairs_rise p ps) h in
    let a = first_le last.0 p.0 last.1 p.1 t.0 in
    let b = above_last p ps j d t.1 (le_of_suc-le-suc lt) in
    omega arith

rising_firsts : (last : ℕ × ℕ) (ps : List (ℕ × ℕ)) → pairs_rise last ps ≡ true → (i j : ℕ) (d : ℕ × ℕ) → i ≤ j → j < length ps → (get_or ps i d).0 ≤ (get_or ps j d).0
unfolding pairs_rise
rising_firsts last [] h i j d le lt = absurd (not-suc-le-zero lt)
rising_firsts last (p ∷ ps) h zero zero d le lt = omega arith
rising_firsts last (p ∷ ps) h zero (suc j) d le lt = above_last p ps j d (and_parts _ (pairs_rise p ps) h).1 (le_of_suc-le-suc lt)
rising_firsts last (p ∷ ps) h (suc i) zero d le lt = absurd (omega arith)
rising_firsts last (p ∷ ps) h (suc i) (suc j) d le lt =
    rising_firsts p ps (and_parts _ (pairs_rise p ps) h).1 i j d (le_of_suc-le-suc le) (le_of_suc-le-suc lt)

pub fold_pairs_ordered : (ps : List (ℕ × ℕ)) → ps ≡ fold_pairs → IsNonDecreasingBy first_of ps
fold_pairs_ordered ps e = subst (λ l. IsNonDecreasingBy first_of l) (sym e) (rising_firsts (0, 0) fold_pairs pairs_rise-fold_pairs)

-- a number that ends the pairs of another is no smaller
pub cut_le : (ps : List (ℕ × ℕ)) (i j c : ℕ) → PairsCut ps i c → PairsCut ps j (c + 1) → i ≤ j
cut_le ps i j c a b =
    elim (cases_lt j i) [
      | inl lt ↦ let x = a.before j lt in let y = b.after j (omega arith) (omega (arith, a.count)) in absurd (omega arith)
      | inr ge ↦ ge
    ]

-- ---- ranges of one number

single_range : (n x : ℕ) → in_range (n, n) x ≡ (n == x)
single_range n x = grind (arith, nat_tests)

in_seconds : (qs : List (ℕ × ℕ)) (x : ℕ) → in_ranges (map second_alone qs) x ≡ list_any (λ q. q.1 == x) qs
unfolding in_ranges
in_seconds [] x = refl
in_seconds (q ∷ qs) x = ap₂ ◌||◌ (single_range q.1 x) (in_seconds qs x)

any_some : (p : ℕ × ℕ → Bool) (qs : List (ℕ × ℕ)) → list_any p qs ≡ true → (k : ℕ) × (k < length qs) × (p (get_or qs k (0, 0)) ≡ true)
any_some p [] h = cc
any_some p (q ∷ qs) h =
    elim (or_cases (p q) (list_any p qs) h) [
      | inl t ↦ (zero, zero-lt-suc _, t)
      | inr t ↦ let r = any_some p qs t in (suc r.0, suc-le-suc r.1, r.2)
    ]

or_true : (b : Bool) → (b || true) ≡ true
or_true true = refl
or_true false = refl

some_any : (p : ℕ × ℕ → Bool) (qs : List (ℕ × ℕ)) (k : ℕ) → k < length qs → p (get_or qs k (0, 0)) ≡ true → list_any p qs ≡ true
some_any p [] k lt h = absurd (not-suc-le-zero lt)
some_any p (q ∷ qs) zero lt h = ap (λ b. b || list_any p qs) h
some_any p (q ∷ qs) (suc k) lt h = ap (λ b. p q || b) (some_any p qs k (le_of_suc-le-suc lt) h) ∙ or_true (p q)

same_pair : (q : ℕ × ℕ) (a b : ℕ) → q.0 ≡ a → q.1 ≡ b → q ≡ (a, b)
same_pair q a b e f = ap₂ (λ x y. (x, y)) e f

same_eqb : (n m : ℕ) → n ≡ m → (n == m) ≡ true
same_eqb n m e = grind (arith, nat_tests)

abbrev between : List (ℕ × ℕ) → ℕ → ℕ → List (ℕ × ℕ)
between ps i j = take (j - i) (drop i ps)

length-between : (ps : List (ℕ × ℕ)) (i j : ℕ) → i ≤ j → j ≤ length ps → length (between ps i j) ≡ j - i
length-between ps i j le lt = omega (arith, length-take (j - i) (drop i ps), length-drop i ps)

at-between : (ps : List (ℕ × ℕ)) (i j k : ℕ) (d : ℕ × ℕ) → k < j - i → get_or (between ps i j) k d ≡ get_or ps (i + k) d
at-between ps i j k d lt = get_or-take (j - i) (drop i ps) k d lt ∙ get_or-drop i ps k d

between_contains : (ps : List (ℕ × ℕ)) (c i j x : ℕ) → PairsCut ps i c → PairsCut ps j (c + 1) → list_any (λ q. q.1 == x) (between ps i j) ≡ true → Contains ps (c, x)
between_contains ps c i j x a b h =
    let le = cut_le ps i j c a b in
    let r = any_some (λ q. q.1 == x) (between ps i j) h in
    let lt : r.0 < j - i = omega (arith, r.1, length-between ps i j le b.count) in
    let at = at-between ps i j r.0 (0, 0) lt in
    let inside : i + r.0 < length ps = omega (arith, b.count) in
    let low = a.after (i + r.0) (omega arith) inside in
    let high = b.before (i + r.0) (omega arith) in
    let one : (get_or ps (i + r.0) (0, 0)).0 ≡ c = omega arith in
    let two : (get_or ps (i + r.0) (0, 0)).1 ≡ x = ap (λ (q : ℕ × ℕ). q.1) (sym at) ∙ eqb-true _ _ r.2 in
    (i + r.0, inside, get_or_default ps (i + r.0) (c, x) (0, 0) inside ∙ same_pair (get_or ps (i + r.0) (0, 0)) c x one two)

contains_between : (ps : List (ℕ × ℕ)) (c i j x : ℕ) → PairsCut ps i c → PairsCut ps j (c + 1) → Contains ps (c, x) → list_any (λ q. q.1 == x) (between ps i j) ≡ true
contains_between ps c i j x a b h =
    let k = h.0 in
    let at : get_or ps k (0, 0) ≡ (c, x) = get_or_default ps k (0, 0) (c, x) h.1 ∙ h.2 in
    let key : (get_or ps k (0, 0)).0 ≡ c = ap (λ (q : ℕ × ℕ). q.0) at in
    let low : i ≤ k = elim (cases_lt k i) [ inl lt ↦ let y = a.before k lt in absurd (omega arith) | inr ge ↦ ge ] in
    let high : k < j = elim (cases_lt k j) [ inl lt ↦ lt | inr ge ↦ let y = b.after k ge h.1 in absurd (omega arith) ] in
    let lt : k - i < j - i = omega arith in
    let back : i + (k - i) ≡ k = omega arith in
    let found : get_or (between ps i j) (k - i) (0, 0) ≡ (c, x) = at-between ps i j (k - i) (0, 0) lt ∙ (ap (λ n. get_or ps n (0, 0)) back ∙ at) in
    some_any (λ q. q.1 == x) (between ps i j) (k - i) (omega (arith, length-between ps i j (omega arith) b.count)) (same_eqb _ x (ap (λ (q : ℕ × ℕ). q.1) found))

bool_eq : (a b : Bool) → (a ≡ true → b ≡ true) → (b ≡ true → a ≡ true) → a ≡ b
bool_eq true b f g = sym (f refl)
bool_eq false true f g = g refl
bool_eq false false f g = refl

turn : (ps : List (ℕ × ℕ)) (a b : ℕ) → IsFoldPairs ps → Contains ps (a, b) → Contains ps (b, a)
turn ps a b law h =
    let r = (law a b).0 h in
    (law b a).1 (λ e. r.0 (sym e), sym r.1)

in_single : (c d : ℕ) → in_range (c, c) d ≡ true → c ≡ d
in_single c d h = eqb-true c d (sym (single_range c d) ∙ h)

pub partners_are : (ps rs : List (ℕ × ℕ)) (c i j x : ℕ) → ps ≡ fold_pairs → PairsCut ps i c → PairsCut ps j (c + 1) → rs ≡ map second_alone (take (j - i) (drop i ps)) → (nat_le x 0x10_FFFF && in_ranges rs x) ≡ in_pairs fold_pairs (in_range (c, c)) x
partners_are ps rs c i j x e a b is =
    let law = subst IsFoldPairs (sym e) IsFoldPairs-fold_pairs in
    let listed : in_ranges rs x ≡ list_any (λ q. q.1 == x) (between ps i j) = ap (λ l. in_ranges l x) is ∙ in_seconds (between ps i j) x in
    ap (λ y. nat_le x 0x10_FFFF && y) listed
    ∙ (ap (λ y. nat_le x 0x10_FFFF && y)
    (bool_eq (list_any (λ q. q.1 == x) (between ps i j)) (in_pairs ps (in_range (c, c)) x)
    (λ h. let k = turn ps c x law (between_contains ps c i j x a b h) in some-in_pairs ps (in_range (c, c)) x c k.0 (single_range c c ∙ same_eqb c c refl) k.1 k.2)
    (λ h.
    let r = in_pairs-some ps (in_range (c, c)) x h in
    contains_between ps c i j x a b (turn ps x c law (subst (λ n. Contains ps (x, n)) (sym (in_single c r.0 r.1)) r.2))))
    ∙ (ap (λ l. nat_le x 0x10_FFFF && in_pairs l (in_range (c, c)) x) e ∙ pairs_within fold_pairs (in_range (c, c)) x fold_pairs_within))
