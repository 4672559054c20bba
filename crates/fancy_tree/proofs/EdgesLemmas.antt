-- Lemmas on edges.
use Rattle.std.proofs.Common.{◌≡◌, ℕ, zero, suc, ◌+◌, ◌-◌, ◌%◌, ◌<◌, ◌≤◌, ◌==◌, inl, inr, Bool, true, false, not, ◌&&◌, ◌||◌, nat_le, List, [], ◌∷◌, ◌++◌, length, get_or, slice_index, take, min, refl, sym, ap, ap₂, ◌∙◌, arith, zero-lt-suc, suc-le-suc, le_of_suc-le-suc, not-suc-le-zero, length-append, add-one, take_all, get_or-take, length-take-le, leb-true}
use Rattle.std.proofs.lemmas.Bool.{cases_lt}
use Rattle.std.proofs.lemmas.List.{take_more}
use Rattle.std.specs.Bool.{beq}
use Rattle.std.proofs.lemmas.List.Folds.{list_any_more}
use Rattle.fancy_tree.specs.Widening.{in_pairs, pairs_to}
use Rattle.std.proofs.lemmas.Bool.Decides.{nat_tests}
use Rattle.fancy_tree.specs.Members.{applied}
use Rattle.fancy_tree.specs.declared.operation.Operation.{Operation}
use Rattle.fancy_tree.specs.declared.operation.Operation.TheVariants.{Union, Intersection, Difference, SymmetricDifference}
use Rattle.fancy_tree.specs.Sets.{differ, has, is_odd, AreRising, AreEdges, in_range}
use Rattle.fancy_tree.specs.SetViews.{Cut, IsNearest}
use Rattle.unicode.specs.Rows.{in_ranges}

not_not : (b : Bool) → not (not b) ≡ b
not_not true = refl
not_not false = refl

pub differ-false : (b : Bool) → differ b false ≡ b
differ-false true = refl
differ-false false = refl

get_or-append_left : (xs ys : List ℕ) (k d : ℕ) → k < length xs → get_or (xs ++ ys) k d ≡ get_or xs k d
get_or-append_left [] ys k d h = absurd (not-suc-le-zero h)
get_or-append_left (x ∷ xs) ys zero d h = refl
get_or-append_left (x ∷ xs) ys (suc k) d h = get_or-append_left xs ys k d (le_of_suc-le-suc h)

get_or-push_last : (xs : List ℕ) (e d : ℕ) → get_or (xs ++ e ∷ []) (length xs) d ≡ e
get_or-push_last [] e d = refl
get_or-push_last (x ∷ xs) e d = get_or-push_last xs e d

pub le_true : (a b : ℕ) → a ≤ b → nat_le a b ≡ true
le_true a b h = grind (arith, nat_tests)

pub le_false : (a b : ℕ) → b < a → nat_le a b ≡ false
le_false a b h = grind (arith, nat_tests)

pub is_odd-suc : (n : ℕ) → is_odd (suc n) ≡ not (is_odd n)
unfolding is_odd
is_odd-suc n = grind (arith, nat_tests)

pub has_count : (es : List ℕ) (i c : ℕ) → i ≤ length es → ((k : ℕ) → k < i → slice_index es k ≤ c) → ((k : ℕ) → i ≤ k → k < length es → c < slice_index es k) → has es c ≡ is_odd i
unfolding has is_odd
has_count [] zero c h low high = refl
has_count [] (suc i) c h low high = absurd (not-suc-le-zero h)
has_count (e ∷ es) zero c h low high =
    rw (le_false e c (high 0 (omega arith) (omega arith))) (has_count es zero c (omega arith) (λ k lt. absurd (not-suc-le-zero lt)) (λ k le lt. high (suc k) (omega arith) (suc-le-suc lt)))
has_count (e ∷ es) (suc i) c h low high =
    let rest = has_count es i c (le_of_suc-le-suc h) (λ k lt. low (suc k) (suc-le-suc lt)) (λ k le lt. high (suc k) (suc-le-suc le) (suc-le-suc lt)) in
    rw (le_true e c (low 0 (zero-lt-suc _)), rest) (sym (is_odd-suc i))

pub has_cut : (es : List ℕ) (i c : ℕ) → Cut es i (c + 1) → has es c ≡ is_odd i
has_cut es i c h = has_count es i c h.count (λ k lt. let x = h.before k lt in omega arith) (λ k le lt. let x = h.after k le lt in omega arith)

-- the first edges at or below a number, all of which are
pub has_front : (es : List ℕ) (i c : ℕ) → i ≤ length es → ((k : ℕ) → k < i → slice_index es k ≤ c) → has (take i es) c ≡ is_odd i
has_front es i c le low =
    has_count (take i es) i c (omega (arith, length-take-le i es le))
    (λ k lt. let a = low k lt in let b : slice_index (take i es) k ≡ slice_index es k = get_or-take i es k 0 lt in omega arith)
    (λ k le2 lt2. absurd (omega (arith, length-take-le i es le)))

-- edges past a number change nothing there
pub has_take : (es : List ℕ) (i c : ℕ) → ((k : ℕ) → i ≤ k → k < length es → c < slice_index es k) → has (take i es) c ≡ has es c
unfolding has is_odd
has_take [] zero c high = refl
has_take [] (suc i) c high = refl
has_take (e ∷ es) zero c high = sym (has_count (e ∷ es) zero c (omega arith) (λ k lt. absurd (not-suc-le-zero lt)) high)
has_take (e ∷ es) (suc i) c high = ap (differ (nat_le e c)) (has_take es i c (λ k le lt. high (suc k) (suc-le-suc le) (suc-le-suc lt)))

differ_assoc : (x y z : Bool) → differ x (differ y z) ≡ differ (differ x y) z
differ_assoc true true z = not_not z
differ_assoc true false z = refl
differ_assoc false y z = refl

pub has-append : (xs ys : List ℕ) (c : ℕ) → has (xs ++ ys) c ≡ differ (has xs c) (has ys c)
unfolding has
has-append [] ys c = refl
has-append (x ∷ xs) ys c = ap (differ (nat_le x c)) (has-append xs ys c) ∙ differ_assoc (nat_le x c) (has xs c) (has ys c)

-- an edge past a number changes nothing there
pub has-push_above : (xs : List ℕ) (e c : ℕ) → c < e → has (xs ++ e ∷ []) c ≡ has xs c
unfolding has
has-push_above xs e c h = has-append xs (e ∷ []) c ∙ rw (le_false e c h) (differ-false (has xs c))

pub cut_between : {es : List ℕ} {i low high : ℕ} (n : ℕ) → Cut es i low → Cut es i high → low ≤ n → n ≤ high → Cut es i n
cut_between n a b p q = record {
  count = a.count;
  before = λ k lt. let x = a.before k lt in omega arith;
  after = λ k le lt. let x = b.after k le lt in omega arith;
}

-- all edges are below the number
pub cut_all : {es : List ℕ} {low : ℕ} (n : ℕ) → Cut es (length es) low → low ≤ n → Cut es (length es) n
cut_all n a p = record {
  count = a.count;
  before = λ k lt. let x = a.before k lt in omega arith;
  after = λ k le lt. absurd (omega arith);
}

pub cut_end : {es : List ℕ} {i low : ℕ} (n : ℕ) → Cut es i low → length es ≤ i → low ≤ n → Cut es i n
cut_end n a e p = record {
  count = a.count;
  before = λ k lt. let x = a.before k lt in omega arith;
  after = λ k le lt. absurd (omega arith);
}

pub cut_push : (es new : List ℕ) (low e : ℕ) → Cut es (length es) low → low ≤ e → new ≡ es ++ e ∷ [] → Cut new (length new) (e + 1)
cut_push es new low e a p is = record {
  count = omega arith;
  before = λ k lt.
      let len : length new ≡ length es + 1 = ap length is ∙ length-append es (e ∷ []) in
      elim (cases_lt k (length es)) [
        | inl h ↦ let x = a.before k h in let y : slice_index new k ≡ slice_index es k = ap (λ l. slice_index l k) is ∙ get_or-append_left es (e ∷ []) k 0 h in omega arith
        | inr h ↦ let same : k ≡ length es = omega arith in
            let y : slice_index new k ≡ e = ap (λ l. slice_index l k) is ∙ (ap (λ n. slice_index (es ++ e ∷ []) n) same ∙ get_or-push_last es e 0) in omega arith
      ];
  after = λ k le lt. absurd (omega arith);
}

pub rising_push : (es new : List ℕ) (low e : ℕ) → Cut es (length es) low → low ≤ e → new ≡ es ++ e ∷ [] → AreRising es → AreRising new
rising_push es new low e a p is h i j lt hj =
    let len : length new ≡ length es + 1 = ap length is ∙ length-append es (e ∷ []) in
    let hi : i < length es = omega arith in
    let x : slice_index new i ≡ slice_index es i = ap (λ l. slice_index l i) is ∙ get_or-append_left es (e ∷ []) i 0 hi in
    let b = a.before i hi in
    elim (cases_lt j (length es)) [
      | inl q ↦ let y : slice_index new j ≡ slice_index es j = ap (λ l. slice_index l j) is ∙ get_or-append_left es (e ∷ []) j 0 q in
          let r = h i j lt q in omega arith
      | inr q ↦ let same : j ≡ length es = omega arith in
          let y : slice_index new j ≡ e = ap (λ l. slice_index l j) is ∙ (ap (λ n. slice_index (es ++ e ∷ []) n) same ∙ get_or-push_last es e 0) in omega arith
    ]

-- the edges so far say what is kept below the number
pub record Merged (op : Bool → Bool → Bool) (a b out : List ℕ) (i j low : ℕ) : Type 0 where
  pub left : Cut a i low
  pub right : Cut b j low
  pub rising : AreRising out
  pub below : Cut out (length out) low
  pub turns : is_odd (length out) ≡ op (is_odd i) (is_odd j)
  pub agree : (c : ℕ) → c < low → has out c ≡ op (has a c) (has b c)
  pub bounded : low ≤ 0x11_0001

pub merged_start : (op : Bool → Bool → Bool) (a b : List ℕ) → op false false ≡ false → Merged op a b [] 0 0 0
unfolding is_odd
merged_start op a b e = record {
  left = record { count = omega arith; before = λ k lt. absurd (not-suc-le-zero lt); after = λ k le lt. omega arith };
  right = record { count = omega arith; before = λ k lt. absurd (not-suc-le-zero lt); after = λ k le lt. omega arith };
  rising = λ i j lt hj. absurd (not-suc-le-zero hj);
  below = record { count = omega arith; before = λ k lt. absurd (not-suc-le-zero lt); after = λ k le lt. omega arith };
  turns = sym e;
  agree = λ c lt. absurd (not-suc-le-zero lt);
  bounded = omega arith;
}

-- the next edges are no less than the number
pub cut_next : {es : List ℕ} {i low : ℕ} (n : ℕ) → Cut es i low → low ≤ n → ((k : ℕ) → i ≤ k → k < length es → n ≤ slice_index es k) → Cut es i n
cut_next n a p h = record {
  count = a.count;
  before = λ k lt. let x = a.before k lt in omega arith;
  after = h;
}

pub nearest_above : {op : Bool → Bool → Bool} {a b out : List ℕ} {i j low n : ℕ} → Merged op a b out i j low → IsNearest a i b j n → low ≤ n
nearest_above {op} {a} {b} {out} {i} {j} {low} {n} m near =
    elim near.one [
      | inl x ↦ let y = m.left.after i (omega arith) x.0 in let z = x.1 in omega arith
      | inr x ↦ let y = m.right.after j (omega arith) x.0 in let z = x.1 in omega arith
    ]

pub one_more : (es new : List ℕ) (e : ℕ) → new ≡ es ++ e ∷ [] → length new ≡ length es + 1
one_more es new e is = ap length is ∙ length-append es (e ∷ [])

-- the walk goes past the nearest edge
pub fewer_left : {op : Bool → Bool → Bool} {a b out : List ℕ} {i j low n i2 j2 : ℕ} → Merged op a b out i j low → IsNearest a i b j n → i ≤ i2 → j ≤ j2 →
    (i < length a → slice_index a i ≡ n → i < i2) → (j < length b → slice_index b j ≡ n → j < j2) → (length a - i2) + (length b - j2) < (length a - i) + (length b - j)
fewer_left {op} {a} {b} {out} {i} {j} {low} {n} {i2} {j2} m near f g p q =
    elim near.one [
      | inl x ↦ let y = p x.0 x.1 in let z = x.0 in omega arith
      | inr x ↦ let y = q x.0 x.1 in let z = x.0 in omega arith
    ]

module _ {op : Bool → Bool → Bool} {a b out new : List ℕ} {i j low i2 j2 n : ℕ} (m : Merged op a b out i j low) (p : low ≤ n) (top : n ≤ 0x11_0000) (near : IsNearest a i b j n) (l : Cut a i2 (n + 1)) (r : Cut b j2 (n + 1)) where
  -- what holds up to the edge, whether or not it is kept
  agree_to : ((c : ℕ) → c < n → has new c ≡ has out c) → Cut new (length new) (n + 1) → is_odd (length new) ≡ op (is_odd i2) (is_odd j2) →
      (c : ℕ) → c < n + 1 → has new c ≡ op (has a c) (has b c)
  agree_to same cut odd c lt =
      elim (cases_lt c low) [
        | inl h ↦ same c (omega arith) ∙ m.agree c h
        | inr h ↦ elim (cases_lt c n) [
          | inl q ↦ same c q ∙ (has_cut out _ c (cut_all (c + 1) m.below (omega arith)) ∙ (m.turns
              ∙ sym (ap₂ op (has_cut a _ c (cut_between (c + 1) m.left (cut_next n m.left p near.left) (omega arith) (omega arith))) (has_cut b _ c (cut_between (c + 1) m.right (cut_next n m.right p near.right) (omega arith) (omega arith))))))
          | inr q ↦ let at : c ≡ n = omega arith in
              rw at (has_cut new _ n cut ∙ (odd ∙ sym (ap₂ op (has_cut a _ n l) (has_cut b _ n r))))
        ]
      ]

  pub merged_kept : new ≡ out → is_odd (length out) ≡ op (is_odd i2) (is_odd j2) → Merged op a b new i2 j2 (n + 1)
  merged_kept is odd =
      let cut : Cut new (length new) (n + 1) = rw is (cut_all (n + 1) m.below (omega arith)) in
      let turns : is_odd (length new) ≡ op (is_odd i2) (is_odd j2) = ap (λ x. is_odd (length x)) is ∙ odd in
      record {
        left = l;
        right = r;
        rising = rw is m.rising;
        below = cut;
        turns = turns;
        agree = agree_to (λ c _. ap (λ x. has x c) is) cut turns;
        bounded = omega arith;
      }

  pub merged_pushed : new ≡ out ++ n ∷ [] → is_odd (length out) ≡ not (op (is_odd i2) (is_odd j2)) → Merged op a b new i2 j2 (n + 1)
  merged_pushed is odd =
      let cut = cut_push out new low n m.below p is in
      let len : length new ≡ suc (length out) = ap length is ∙ (length-append out (n ∷ []) ∙ add-one (length out)) in
      let turns : is_odd (length new) ≡ op (is_odd i2) (is_odd j2) = ap is_odd len ∙ (is_odd-suc (length out) ∙ (ap not odd ∙ not_not _)) in
      record {
        left = l;
        right = r;
        rising = rising_push out new low n m.below p is m.rising;
        below = cut;
        turns = turns;
        agree = agree_to (λ c lt. ap (λ x. has x c) is ∙ has-push_above out n c lt) cut turns;
        bounded = omega arith;
      }

-- with no edge left
pub merged_done : {op : Bool → Bool → Bool} {a b out : List ℕ} {i j low : ℕ} → Merged op a b out i j low → length a ≤ i → length b ≤ j → (c : ℕ) → has out c ≡ op (has a c) (has b c)
merged_done {op} {a} {b} {out} {i} {j} {low} m p q c =
    elim (cases_lt c low) [
      | inl h ↦ m.agree c h
      | inr h ↦ has_cut out _ c (cut_end (c + 1) m.below (omega arith) (omega arith)) ∙ (m.turns ∙ sym (ap₂ op (has_cut a _ c (cut_end (c + 1) m.left p (omega arith))) (has_cut b _ c (cut_end (c + 1) m.right q (omega arith)))))
    ]

pub nearest_within : {a b : List ℕ} {i j n : ℕ} → AreEdges a → AreEdges b → IsNearest a i b j n → n ≤ 0x11_0000
nearest_within {a} {b} {i} {j} {n} x y h = elim h.one [ inl z ↦ let w = x.within i z.0 in let v = z.1 in omega arith | inr z ↦ let w = y.within j z.0 in let v = z.1 in omega arith ]

-- the edges of one range
pub range_edges : (es : List ℕ) (m n : ℕ) → es ≡ m ∷ (n + 1) ∷ [] → m ≤ n → n ≤ 0x10_FFFF → AreEdges es
unfolding is_odd
range_edges es m n is le top = rw is (record {
  rising = two_rise m (n + 1) (omega arith);
  closed = refl;
  within = two_within m (n + 1) (omega arith) (omega arith);
})
  where
    two_rise : (x y : ℕ) → x < y → AreRising (x ∷ y ∷ [])
    two_rise x y h i zero lt hj = absurd (not-suc-le-zero lt)
    two_rise x y h zero (suc zero) lt hj = h
    two_rise x y h (suc i) (suc zero) lt hj = absurd (omega arith)
    two_rise x y h i (suc (suc j)) lt hj = absurd (omega arith)

    two_within : (x y : ℕ) → x ≤ 0x11_0000 → y ≤ 0x11_0000 → (k : ℕ) → k < 2 → slice_index (x ∷ y ∷ []) k ≤ 0x11_0000
    two_within x y h g zero lt = h
    two_within x y h g (suc zero) lt = g
    two_within x y h g (suc (suc k)) lt = absurd (omega arith)

pub range_has : (es : List ℕ) (m n c : ℕ) → es ≡ m ∷ (n + 1) ∷ [] → m ≤ n → has es c ≡ in_range (m, n) c
unfolding has
range_has es m n c is le = rw is (grind (arith, nat_tests))

pub no_edges : (es : List ℕ) → es ≡ [] → AreEdges es
unfolding is_odd
no_edges es is = rw is (record { rising = λ i j lt hj. absurd (not-suc-le-zero hj); closed = refl; within = λ k lt. absurd (not-suc-le-zero lt) })

pub no_edges-has : (es : List ℕ) (c : ℕ) → es ≡ [] → has es c ≡ false
unfolding has
no_edges-has es c is = rw is refl

pub operation_none : (how : Operation) → applied how false false ≡ false
operation_none Union = refl
operation_none Intersection = refl
operation_none Difference = refl
operation_none SymmetricDifference = refl

pub unlike : (k y x o : Bool) → not (beq k o) ≡ true → o ≡ y → k ≡ x → y ≡ not x
unlike true y x true h e f = cc
unlike true y x false h e f = sym e ∙ ap not f
unlike false y x true h e f = sym e ∙ ap not f
unlike false y x false h e f = cc

pub alike : (k y x o : Bool) → not (beq k o) ≡ false → o ≡ y → k ≡ x → y ≡ x
alike true y x true h e f = sym e ∙ f
alike true y x false h e f = cc
alike false y x true h e f = cc
alike false y x false h e f = sym e ∙ f

pub odd_len : (n len : ℕ) → n ≡ len → (n % 2 == 1) ≡ is_odd len
unfolding is_odd
odd_len n len e = ap (λ x. x % 2 == 1) e

-- ---- ranges

pub or_assoc : (x y z : Bool) → (x || (y || z)) ≡ ((x || y) || z)
or_assoc true y z = refl
or_assoc false y z = refl

pub or-false : (x : Bool) → (x || false) ≡ x
or-false true = refl
or-false false = refl

pub in_ranges-append : (xs ys : List (ℕ × ℕ)) (c : ℕ) → in_ranges (xs ++ ys) c ≡ (in_ranges xs c || in_ranges ys c)
unfolding in_ranges
in_ranges-append [] ys c = refl
in_ranges-append (x ∷ xs) ys c = ap (λ b. in_range x c || b) (in_ranges-append xs ys c) ∙ or_assoc (in_range x c) (in_ranges xs c) (in_ranges ys c)

pub in_ranges-push : (xs : List (ℕ × ℕ)) (r : ℕ × ℕ) (c : ℕ) → in_ranges (xs ++ r ∷ []) c ≡ (in_ranges xs c || in_range r c)
unfolding in_ranges
in_ranges-push xs r c = in_ranges-append xs (r ∷ []) c ∙ ap (λ b. in_ranges xs c || b) (or-false (in_range r c))

pub in_ranges-nil : (c : ℕ) → in_ranges [] c ≡ false
unfolding in_ranges
in_ranges-nil c = refl

pub in_ranges-one : (r : ℕ × ℕ) (c : ℕ) → in_ranges (r ∷ []) c ≡ in_range r c
unfolding in_ranges
in_ranges-one r c = or-false (in_range r c)

pub and_over_or : (x y z : Bool) → (x && (y || z)) ≡ ((x && y) || (x && z))
and_over_or true y z = refl
and_over_or false y z = refl

pub halves : (rs xs ys : List (ℕ × ℕ)) (c : ℕ) (a b : Bool) → rs ≡ xs ++ ys → a ≡ (nat_le c 0x10_FFFF && in_ranges xs c) → b ≡ (nat_le c 0x10_FFFF && in_ranges ys c) → (a || b) ≡ (nat_le c 0x10_FFFF && in_ranges rs c)
halves rs xs ys c a b is e f = rw (is, e, f, in_ranges-append xs ys c) (sym (and_over_or (nat_le c 0x10_FFFF) (in_ranges xs c) (in_ranges ys c)))

-- ---- pairs

pub in_pairs-none : (p : ℕ → Bool) (c : ℕ) → in_pairs [] p c ≡ false
in_pairs-none p c = refl

pub single_range : (v c : ℕ) → in_range (v, v) c ≡ (v == c)
single_range v c = grind (arith, nat_tests)

pub pair_kept : (p : ℕ → Bool) (xs : List (ℕ × ℕ)) (others new : List (ℕ × ℕ)) (i : ℕ) (q : ℕ × ℕ) → i < length xs → q ≡ get_or xs i (0, 0) → p q.1 ≡ true → new ≡ others ++ (q.0, q.0) ∷ [] →
    ((c : ℕ) → in_ranges others c ≡ in_pairs (take i xs) p c) → (c : ℕ) → in_ranges new c ≡ in_pairs (take (i + 1) xs) p c
pair_kept p xs others new i q lt at h is before c =
    ap (λ l. in_ranges l c) is ∙ (in_ranges-push others (q.0, q.0) c ∙ (ap₂ ◌||◌ (before c) (single_range q.0 c ∙ sym (ap (λ b. (q.0 == c) && b) h ∙ and-true (q.0 == c)))
    ∙ sym (list_any_more (pairs_to p c) xs i (0, 0) lt ∙ ap (λ r. in_pairs (take i xs) p c || pairs_to p c r) (sym at))))
  where
    and-true : (b : Bool) → (b && true) ≡ b
    and-true true = refl
    and-true false = refl

pub pair_dropped : (p : ℕ → Bool) (xs : List (ℕ × ℕ)) (others : List (ℕ × ℕ)) (i : ℕ) (q : ℕ × ℕ) → i < length xs → q ≡ get_or xs i (0, 0) → p q.1 ≡ false →
    ((c : ℕ) → in_ranges others c ≡ in_pairs (take i xs) p c) → (c : ℕ) → in_ranges others c ≡ in_pairs (take (i + 1) xs) p c
pair_dropped p xs others i q lt at h before c =
    before c ∙ (sym (or-false _) ∙ (ap (λ b. in_pairs (take i xs) p c || b) (sym (ap (λ b. (q.0 == c) && b) h ∙ and-false (q.0 == c)))
    ∙ sym (list_any_more (pairs_to p c) xs i (0, 0) lt ∙ ap (λ r. in_pairs (take i xs) p c || pairs_to p c r) (sym at))))
  where
    and-false : (b : Bool) → (b && false) ≡ false
    and-false true = refl
    and-false false = refl

-- ---- a set's ranges

pub record Listed (es : List ℕ) (out : List (ℕ × ℕ)) (i : ℕ) : Type 0 where
  pub count : i ≤ length es
  pub even : is_odd i ≡ false
  pub agree : (c : ℕ) → in_ranges out c ≡ has (take i es) c

pub listed_start : (es : List ℕ) (out : List (ℕ × ℕ)) → out ≡ [] → Listed es out 0
unfolding is_odd has
listed_start es out is = record { count = omega arith; even = refl; agree = λ c. ap (λ l. in_ranges l c) is ∙ in_ranges-nil c }

pub or_differ : (b x y : Bool) → (x ≡ true → b ≡ false) → (y ≡ true → x ≡ true) → (b || (x && not y)) ≡ differ b (differ x y)
or_differ b true true f g = rw (f refl) refl
or_differ b true false f g = rw (f refl) refl
or_differ b false true f g = absurd (false_true (g refl))
  where
    false_true : false ≡ true → ⊥
    false_true h = cc
or_differ true false false f g = refl
or_differ false false false f g = refl

pub has-one : (x c : ℕ) → has (x ∷ []) c ≡ nat_le x c
unfolding has
has-one x c = differ-false (nat_le x c)

range_is : (x y c : ℕ) → x < y → in_range (x, y - 1) c ≡ (nat_le x c && not (nat_le y c))
range_is x y c h = grind (arith, nat_tests)

pub differ_twice : (a b c : Bool) → differ (differ a b) c ≡ differ a (differ b c)
differ_twice a b c = sym (differ_assoc a b c)

pub le_trans_true : (x y c : ℕ) → x < y → nat_le y c ≡ true → nat_le x c ≡ true
le_trans_true x y c h t = le_true x c (let z = leb-true y c t in omega arith)

-- past the first edges of an even number no member is left
none_left : (es : List ℕ) (i c : ℕ) → AreRising es → i < length es → is_odd i ≡ false → nat_le (slice_index es i) c ≡ true → has (take i es) c ≡ false
none_left es i c rise lt even le =
    let at = leb-true (slice_index es i) c le in
    has_front es i c (omega arith) (λ k hk. let a = rise k i hk lt in omega arith) ∙ even

pub even_two : (i : ℕ) → is_odd i ≡ false → is_odd (i + 2) ≡ false
even_two i h = ap is_odd (two_more i) ∙ (is_odd-suc (suc i) ∙ (ap not (is_odd-suc i) ∙ (not_not (is_odd i) ∙ h)))
  where
    two_more : (n : ℕ) → n + 2 ≡ suc (suc n)
    two_more n = omega arith

take_two : (es : List ℕ) (i : ℕ) → i + 1 < length es → take (i + 2) es ≡ (take i es ++ slice_index es i ∷ []) ++ slice_index es (i + 1) ∷ []
take_two es i h =
    let e : i + 2 ≡ i + 1 + 1 = omega arith in
    ap (λ n. take n es) e ∙ (take_more es (i + 1) 0 h ∙ ap (λ l. l ++ slice_index es (i + 1) ∷ []) (take_more es i 0 (omega arith)))

pub listed_more : (es : List ℕ) (out new : List (ℕ × ℕ)) (i : ℕ) → AreRising es → Listed es out i → i + 1 < length es → new ≡ out ++ (slice_index es i, slice_index es (i + 1) - 1) ∷ [] → Listed es new (i + 2)
listed_more es out new i rise l lt is = record {
  count = omega arith;
  even = even_two i l.even;
  agree = λ c.
      let x = slice_index es i in
      let y = slice_index es (i + 1) in
      let up : x < y = rise i (i + 1) (omega arith) lt in
      ap (λ r. in_ranges r c) is ∙ (in_ranges-push out (x, y - 1) c ∙ (ap₂ ◌||◌ (l.agree c) (range_is x y c up)
      ∙ (or_differ (has (take i es) c) (nat_le x c) (nat_le y c) (none_left es i c rise (omega arith) l.even) (le_trans_true x y c up)
      ∙ sym (ap (λ r. has r c) (take_two es i lt) ∙ (has-append (take i es ++ x ∷ []) (y ∷ []) c ∙ (ap₂ differ (has-append (take i es) (x ∷ []) c) (has-one y c)
      ∙ (ap (λ b. differ (differ (has (take i es) c) b) (nat_le y c)) (has-one x c) ∙ differ_twice (has (take i es) c) (nat_le x c) (nat_le y c))))))));
}

pub listed_all : (es : List ℕ) (out : List (ℕ × ℕ)) (i c : ℕ) → Listed es out i → is_odd (length es) ≡ false → length es ≤ i + 1 → in_ranges out c ≡ has es c
listed_all es out i c l closed h =
    elim (cases_lt i (length es)) [
      | inl lt ↦ let e : length es ≡ suc i = omega (arith, l.count) in absurd (both_no (sym (ap is_odd e ∙ (is_odd-suc i ∙ ap not l.even)) ∙ closed))
      | inr ge ↦ l.agree c ∙ ap (λ r. has r c) (take_all i es ge)
    ]
  where
    both_no : true ≡ false → ⊥
    both_no h = cc
