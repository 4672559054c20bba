-- Lemmas on ranges that are in order, and the edges of what they hold.
use Rattle.std.proofs.Common.{◌≡◌, ℕ, ◌+◌, ◌-◌, ◌<◌, ◌≤◌, inl, inr, Bool, true, false, not, ◌&&◌, ◌||◌, nat_le, List, [], ◌∷◌, ◌++◌, length, slice_index_or, take, drop, take_all, min, max, refl, sym, ap, ap₂, ◌∙◌, arith, leb-true, length-append}
use Rattle.std.proofs.lemmas.Bool.{cases_Bool, cases_lt, and_parts}
use Rattle.std.proofs.lemmas.Bool.Decides.{nat_tests}
use Rattle.unicode.specs.Rows.{in_ranges}
use Rattle.fancy_tree.specs.Sets.{differ, has, is_odd, AreEdges, in_range}
use Rattle.fancy_tree.specs.SetViews.{Cut, begin_in_order, in_part}
use Rattle.fancy_tree.proofs.EdgesLemmas.{has_count, has-append, has-one, or_differ, differ_twice, le_trans_true, even_two, cut_all, cut_push, rising_push, no_edges, no_edges-has, in_ranges-nil, or-false}

-- ---- the order

pub order-some : (low : ℕ) (r : ℕ × ℕ) (rs : List (ℕ × ℕ)) → nat_le r.0 r.1 ≡ true →
    begin_in_order low (r ∷ rs) ≡ (nat_le low r.0 && begin_in_order r.0 rs)
unfolding begin_in_order
order-some low r rs t = rw t refl

pub order-none : (low : ℕ) (r : ℕ × ℕ) (rs : List (ℕ × ℕ)) → nat_le r.0 r.1 ≡ false →
    begin_in_order low (r ∷ rs) ≡ begin_in_order low rs
unfolding begin_in_order
order-none low r rs f = rw f refl

le_true : (a b : ℕ) → a ≤ b → nat_le a b ≡ true
le_true a b h = grind (arith, nat_tests)

le_false : (a b : ℕ) → b < a → nat_le a b ≡ false
le_false a b h = grind (arith, nat_tests)

-- what is in order from a number on is so from each lower one
order_lower : (low high : ℕ) (rs : List (ℕ × ℕ)) → low ≤ high → begin_in_order high rs ≡ true → begin_in_order low rs ≡ true
unfolding begin_in_order
order_lower low high [] le h = refl
order_lower low high (r ∷ rs) le h =
    elim (cases_Bool (nat_le r.0 r.1)) [
      | inl t ↦ let p = and_parts (nat_le high r.0) _ (sym (order-some high r rs t) ∙ h) in
          order-some low r rs t ∙ (rw (le_true low r.0 (let z = leb-true high r.0 p.0 in omega arith)) p.1)
      | inr f ↦ order-none low r rs f ∙ order_lower low high rs le (sym (order-none high r rs f) ∙ h)
    ]

order_begins : (low : ℕ) (r : ℕ × ℕ) (rs : List (ℕ × ℕ)) → r.0 ≤ r.1 → begin_in_order low (r ∷ rs) ≡ true → low ≤ r.0
order_begins low r rs le h = leb-true low r.0 (and_parts (nat_le low r.0) _ (sym (order-some low r rs (le_true r.0 r.1 le))
    ∙ h)).0

order_after : (low : ℕ) (r : ℕ × ℕ) (rs : List (ℕ × ℕ)) → r.0 ≤ r.1 → begin_in_order low (r ∷ rs) ≡ true →
    begin_in_order r.0 rs ≡ true
order_after low r rs le h = (and_parts (nat_le low r.0) _ (sym (order-some low r rs (le_true r.0 r.1 le)) ∙ h)).1

order_rest : (low : ℕ) (r : ℕ × ℕ) (rs : List (ℕ × ℕ)) → begin_in_order low (r ∷ rs) ≡ true → begin_in_order low rs ≡ true
order_rest low r rs h =
    elim (cases_Bool (nat_le r.0 r.1)) [
      | inl t ↦ let le = leb-true r.0 r.1 t in order_lower low r.0 rs (order_begins low r rs le h) (order_after low r rs le h)
      | inr f ↦ sym (order-none low r rs f) ∙ h
    ]

pub nil_in : (low : ℕ) → begin_in_order low [] ≡ true
unfolding begin_in_order
nil_in low = refl

-- the first range and the others
pub front : (rs : List (ℕ × ℕ)) → 1 ≤ length rs → rs ≡ slice_index_or rs 0 (0, 0) ∷ take (length rs - 1) (drop 1 rs)
front [] h = absurd (omega arith)
front (r ∷ rs) h = let e : length (r ∷ rs) - 1 ≡ length rs = omega arith in
    rw e (ap (λ l. r ∷ l) (sym (take_all (length rs) rs (omega arith))))

pub order_goes_on : (low : ℕ) (all : List (ℕ × ℕ)) {r : ℕ × ℕ} {rs rest : List (ℕ × ℕ)} →
    begin_in_order low rest ≡ begin_in_order 0 all → rest ≡ r ∷ rs → r.0 ≤ r.1 → low ≤ r.0 →
    begin_in_order r.0 rs ≡ begin_in_order 0 all
order_goes_on low all {r} {rs} {rest} h is le up = sym (order-some low r rs (le_true r.0 r.1 le)
    ∙ ap (λ b. b && begin_in_order r.0 rs) (le_true low r.0 up)) ∙ (sym (ap (begin_in_order low) is) ∙ h)

pub order_passes : (low : ℕ) (all : List (ℕ × ℕ)) {r : ℕ × ℕ} {rs rest : List (ℕ × ℕ)} →
    begin_in_order low rest ≡ begin_in_order 0 all → rest ≡ r ∷ rs → r.1 < r.0 → begin_in_order low rs ≡ begin_in_order 0 all
order_passes low all {r} {rs} {rest} h is lt = sym (order-none low r rs (le_false r.0 r.1 lt))
    ∙ (sym (ap (begin_in_order low) is) ∙ h)

pub order_breaks : (low : ℕ) (all : List (ℕ × ℕ)) {r : ℕ × ℕ} {rs rest : List (ℕ × ℕ)} →
    begin_in_order low rest ≡ begin_in_order 0 all → rest ≡ r ∷ rs → r.0 ≤ r.1 → r.0 < low → false ≡ begin_in_order 0 all
order_breaks low all {r} {rs} {rest} h is le lt = sym (order-some low r rs (le_true r.0 r.1 le)
    ∙ ap (λ b. b && begin_in_order r.0 rs) (le_false low r.0 lt)) ∙ (sym (ap (begin_in_order low) is) ∙ h)

pub order_ends : (low : ℕ) (all rest : List (ℕ × ℕ)) → begin_in_order low rest ≡ begin_in_order 0 all → length rest < 1 →
    true ≡ begin_in_order 0 all
order_ends low all [] h none = sym (nil_in low) ∙ h
order_ends low all (r ∷ rs) h none = absurd (omega arith)

-- ---- one more part

pub part_edges : (es mid new : List ℕ) (begin end : ℕ) → AreEdges es → Cut es (length es) begin → begin < end → end ≤ 0x11_0000 →
    mid ≡ es ++ begin ∷ [] → new ≡ mid ++ end ∷ [] → AreEdges new
part_edges es mid new begin end a cut lt top m n =
    let cm = cut_push es mid begin begin cut (omega arith) m in
    let cn = cut_push mid new (begin + 1) end cm (omega arith) n in
    let len : length new ≡ length es + 2 = ap length n ∙ (length-append mid (end ∷ [])
    ∙ (ap (λ l. length l + 1) m ∙ (ap (λ k. k + 1) (length-append es (begin ∷ [])) ∙ omega arith))) in
    record {
      rising = rising_push mid new (begin + 1) end cm (omega arith) n
          (rising_push es mid begin begin cut (omega arith) m a.rising);
      closed = ap is_odd len ∙ even_two (length es) a.closed;
      within = λ k h. let z = cn.before k h in omega arith;
    }

part_is : (begin end c : ℕ) → in_part begin end c ≡ (nat_le begin c && not (nat_le end c))
part_is begin end c = grind (arith, nat_tests)

pub part_has : (es mid new : List ℕ) (begin end c : ℕ) → AreEdges es → Cut es (length es) begin → begin < end →
    mid ≡ es ++ begin ∷ [] → new ≡ mid ++ end ∷ [] →
    has new c ≡ (has es c || in_part begin end c)
part_has es mid new begin end c a cut lt m n =
    ap (λ l. has l c) n ∙ (has-append mid (end ∷ []) c ∙ (ap₂ differ (ap (λ l. has l c) m
    ∙ (has-append es (begin ∷ []) c ∙ ap (differ (has es c)) (has-one begin c))) (has-one end c)
    ∙ (differ_twice (has es c) (nat_le begin c) (nat_le end c)
    ∙ (sym (or_differ (has es c) (nat_le begin c) (nat_le end c)
    (λ t. let le = leb-true begin c t in has_count es (length es) c (omega arith) (λ k h. let z = cut.before k h in
    omega arith) (λ k h l. absurd (omega arith)) ∙ a.closed)
    (le_trans_true begin end c lt)) ∙ ap (λ b. has es c || b) (sym (part_is begin end c))))))

pub no_part : (b : Bool) (begin end c : ℕ) → end ≤ begin → b ≡ (b || in_part begin end c)
no_part b begin end c le = sym (ap (λ x. b || x) none ∙ or-false b)
  where
    none : in_part begin end c ≡ false
    none = grind (arith, nat_tests)

-- ---- the walk

-- the edges and the open part hold what the ranges before the rest do
pub record Joined (all : List (ℕ × ℕ)) (es : List ℕ) (begin end : ℕ) (rest : List (ℕ × ℕ)) : Type 0 where
  pub edges : AreEdges es
  pub below : Cut es (length es) begin
  pub order : begin ≤ end
  pub within : end ≤ 0x11_0000
  pub rises : begin_in_order begin rest ≡ true
  pub agree : (c : ℕ) → ((has es c || in_part begin end c) || (nat_le c 0x10_FFFF && in_ranges rest c)) ≡
      (nat_le c 0x10_FFFF && in_ranges all c)

pub joined_start : (all : List (ℕ × ℕ)) (es : List ℕ) → es ≡ [] → begin_in_order 0 all ≡ true → Joined all es 0 0 all
joined_start all es is h = record {
  edges = no_edges es is;
  below = record {
    count = omega arith;
    before = λ k lt. let e : length es ≡ 0 = ap length is in
        absurd (omega arith);
    after = λ k le lt. omega arith;
  };
  order = omega arith;
  within = omega arith;
  rises = h;
  agree = λ c. ap (λ b. (b || in_part 0 0 c) || (nat_le c 0x10_FFFF && in_ranges all c)) (no_edges-has es c is)
      ∙ ap (λ b. b || (nat_le c 0x10_FFFF && in_ranges all c)) (sym (no_part false 0 0 c (omega arith)));
}

-- the next range makes the open part longer
longer : (h p q l x r : Bool) → q ≡ (p || (l && x)) → ((h || q) || (l && r)) ≡ ((h || p) || (l && (x || r)))
longer h p q l x r e = ap (λ b. (h || b) || (l && r)) e ∙ spread h p l x r
  where
    spread : (h p l x r : Bool) → ((h || (p || (l && x))) || (l && r)) ≡ ((h || p) || (l && (x || r)))
    spread true p l x r = refl
    spread false true l x r = refl
    spread false false true true r = refl
    spread false false true false r = refl
    spread false false false x r = refl

-- the next range begins a new part
opened : (h p g q l x r : Bool) → g ≡ (h || p) → q ≡ (l && x) → ((g || q) || (l && r)) ≡ ((h || p) || (l && (x || r)))
opened h p g q l x r e f = ap₂ (λ a b. (a || b) || (l && r)) e f ∙ spread (h || p) l x r
  where
    spread : (s l x r : Bool) → ((s || (l && x)) || (l && r)) ≡ (s || (l && (x || r)))
    spread true l x r = refl
    spread false true true r = refl
    spread false true false r = refl
    spread false false x r = refl

-- the next range holds nothing
passed : (s l x r : Bool) → (l && x) ≡ false → (s || (l && r)) ≡ (s || (l && (x || r)))
passed true l x r e = refl
passed false true true r e = absurd (true_false e)
  where
    true_false : true ≡ false → ⊥
    true_false h = cc
passed false true false r e = refl
passed false false x r e = refl

in_longer : (begin end past first last c : ℕ) → past ≡ min 0x10_FFFF last + 1 → begin ≤ first → first ≤ end → begin ≤ end →
    in_part begin (max end past) c ≡ (in_part begin end c || (nat_le c 0x10_FFFF && in_range (first, last) c))
in_longer begin end past first last c is le in_it order = grind (arith, nat_tests)

in_same : (begin end past first last c : ℕ) → past ≡ min 0x10_FFFF last + 1 → first ≤ end → last < first →
    in_part begin (max end past) c ≡ (in_part begin end c || (nat_le c 0x10_FFFF && in_range (first, last) c))
in_same begin end past first last c is in_it none = grind (arith, nat_tests)

in_opened : (past first last c : ℕ) → past ≡ min 0x10_FFFF last + 1 →
    in_part first past c ≡ (nat_le c 0x10_FFFF && in_range (first, last) c)
in_opened past first last c is = grind (arith, nat_tests)

in_none : (past first last c : ℕ) → past ≡ min 0x10_FFFF last + 1 → past ≤ first →
    (nat_le c 0x10_FFFF && in_range (first, last) c) ≡ false
in_none past first last c is le = grind (arith, nat_tests)

in_ranges-next : (r : ℕ × ℕ) (rs : List (ℕ × ℕ)) (c : ℕ) → in_ranges (r ∷ rs) c ≡ (in_range (r.0, r.1) c || in_ranges rs c)
unfolding in_ranges
in_ranges-next r rs c = refl

module _ {all : List (ℕ × ℕ)} {es : List ℕ} {begin end past : ℕ} {r : ℕ × ℕ} {rs rest : List (ℕ × ℕ)}
    (j : Joined all es begin end rest) (next : rest ≡ r ∷ rs) (is : past ≡ min 0x10_FFFF r.1 + 1) where
  rises : begin_in_order begin (r ∷ rs) ≡ true
  rises = sym (ap (begin_in_order begin) next) ∙ j.rises

  agrees : (c : ℕ) → ((has es c || in_part begin end c) || (nat_le c 0x10_FFFF && (in_range (r.0, r.1) c || in_ranges rs c))) ≡
      (nat_le c 0x10_FFFF && in_ranges all c)
  agrees c = ap (λ b. (has es c || in_part begin end c) || (nat_le c 0x10_FFFF && b)) (sym (ap (λ l. in_ranges l c) next
      ∙ in_ranges-next r rs c)) ∙ j.agree c

  longer_part : r.0 ≤ end → (c : ℕ) → in_part begin (max end past) c ≡
      (in_part begin end c || (nat_le c 0x10_FFFF && in_range (r.0, r.1) c))
  longer_part in_it c =
      elim (cases_lt r.1 r.0) [
        | inl lt ↦ in_same begin end past r.0 r.1 c is in_it lt
        | inr le ↦ in_longer begin end past r.0 r.1 c is (order_begins begin r rs le rises) in_it j.order
      ]

  pub joined_longer : (n : ℕ) → r.0 ≤ end → n ≡ max end past → Joined all es begin n rs
  joined_longer n in_it e = record {
    edges = j.edges;
    below = j.below;
    order = let o = j.order in omega arith;
    within = let w = j.within in omega arith;
    rises = order_rest begin r rs rises;
    agree = λ c. longer (has es c) (in_part begin end c) (in_part begin n c) (nat_le c 0x10_FFFF) (in_range (r.0, r.1) c)
        (in_ranges rs c) (ap (λ m. in_part begin m c) e ∙ longer_part in_it c) ∙ agrees c;
  }

  pub joined_opened : (new : List ℕ) → end < r.0 → r.0 < past → AreEdges new → Cut new (length new) (end + 1) →
      ((c : ℕ) → has new c ≡ (has es c || in_part begin end c)) → Joined all new r.0 past rs
  joined_opened new after some a cut h = record {
    edges = a;
    below = cut_all r.0 cut (omega arith);
    order = omega arith;
    within = omega arith;
    rises = order_after begin r rs (omega arith) rises;
    agree = λ c. opened (has es c) (in_part begin end c) (has new c) (in_part r.0 past c) (nat_le c 0x10_FFFF)
        (in_range (r.0, r.1) c) (in_ranges rs c) (h c) (in_opened past r.0 r.1 c is) ∙ agrees c;
  }

  pub joined_passed : past ≤ r.0 → Joined all es begin end rs
  joined_passed none = record {
    edges = j.edges;
    below = j.below;
    order = j.order;
    within = j.within;
    rises = order_rest begin r rs rises;
    agree = λ c. passed (has es c || in_part begin end c) (nat_le c 0x10_FFFF) (in_range (r.0, r.1) c) (in_ranges rs c)
        (in_none past r.0 r.1 c is none) ∙ agrees c;
  }

pub joined_all : (all : List (ℕ × ℕ)) (es : List ℕ) (begin end : ℕ) (rest : List (ℕ × ℕ)) (c : ℕ) (b : Bool) →
    Joined all es begin end rest → length rest < 1 → b ≡ (has es c || in_part begin end c) →
    b ≡ (nat_le c 0x10_FFFF && in_ranges all c)
joined_all all es begin end (r ∷ rs) c b j none h = absurd (omega arith)
joined_all all es begin end [] c b j none h = h ∙ (sym (or-false _)
    ∙ (ap (λ x. (has es c || in_part begin end c) || x) (sym nothing) ∙ j.agree c))
  where
    nothing : (nat_le c 0x10_FFFF && in_ranges [] c) ≡ false
    nothing = ap (λ b. nat_le c 0x10_FFFF && b) (in_ranges-nil c) ∙ and-false (nat_le c 0x10_FFFF)
      where
        and-false : (b : Bool) → (b && false) ≡ false
        and-false true = refl
        and-false false = refl

-- ranges that are out of order are two or more
pub two_or_more : (rs : List (ℕ × ℕ)) → begin_in_order 0 rs ≡ false → 2 ≤ length rs
two_or_more [] h = let a = nil_in 0 in cc
two_or_more (r ∷ []) h = absurd (one_of h)
  where
    one_of : begin_in_order 0 (r ∷ []) ≡ false → ⊥
    one_of h = elim (cases_Bool (nat_le r.0 r.1)) [
      | inl t ↦ let a = order-some 0 r [] t in let b = nil_in r.0 in let z = le_true 0 r.0 (omega arith) in cc
      | inr f ↦ let a = order-none 0 r [] f in let b = nil_in 0 in cc
    ]
two_or_more (r ∷ s ∷ rs) h = omega arith
