-- Members of sets, found by going over the edges and over the numbers.
use Rattle.std.proofs.Common.{◌≡◌, ℕ, zero, suc, ◌+◌, ◌-◌, ◌<◌, ◌≤◌, ◌==◌, ◌⊎◌, Bool, true, false, not, ◌&&◌, ◌||◌, nat_le, nat_lt, List, [], ◌∷◌, length, drop, get_or, slice_index, le_refl, refl, sym, ap, ap₂, ◌∙◌, arith, inl, inr, true≢false}
use Rattle.std.proofs.lemmas.Bool.Decides.{nat_tests}
use Rattle.std.proofs.lemmas.Bool.{cases_eq, cases_lt}
use Rattle.fancy_tree.specs.declared.tree.Meaning.{Meaning}
use Rattle.fancy_tree.specs.Sets.{has, differ, is_odd, AreRising}
use Rattle.fancy_tree.specs.SetViews.{Cut}
use Rattle.fancy_tree.proofs.EdgesLemmas.{has_cut, cut_next, is_odd-suc}
use Rattle.fancy_bytes.specs.Items.{some_below, encoding, includes, is_item, is_in_each, is_in_all}
use Rattle.fancy_bytes.proofs.BoolLemmas.{parts_of, or_assoc, or_nothing, and_assoc, and_nothing, and_never, both_hold, some_below_from, le_holds, le_test, le_fails, lt_holds}
use Rattle.fancy_bytes.proofs.ItemLemmas.{none_below}

drop_past : (es : List ℕ) (i : ℕ) → length es ≤ i → drop i es ≡ []
drop_past [] zero le = refl
drop_past [] (suc i) le = refl
drop_past (e ∷ es) zero le = absurd (omega arith)
drop_past (e ∷ es) (suc i) le = drop_past es i (omega arith)

-- a byte that is a member was added
pub byte_added : (f : ℕ → Bool) (i b : ℕ) (was now next : Bool) → f i ≡ true → now ≡ (was || (nat_lt b i && f b)) → next ≡ (now || (b == i)) →
    next ≡ (was || (nat_lt b (i + 1) && f b))
byte_added f i b was now next here before adds =
    elim (cases_eq b i) [
      | inl same ↦ let there : f b ≡ true = ap f same ∙ here in grind (arith, nat_tests)
      | inr other ↦ grind (arith, nat_tests)
    ]

pub byte_passed : (f : ℕ → Bool) (i b : ℕ) (was now : Bool) → f i ≡ false → now ≡ (was || (nat_lt b i && f b)) → now ≡ (was || (nat_lt b (i + 1) && f b))
byte_passed f i b was now here before =
    elim (cases_eq b i) [
      | inl same ↦ let there : f b ≡ false = ap f same ∙ here in grind (arith, nat_tests)
      | inr other ↦ grind (arith, nat_tests)
    ]

pub bytes_done : (f : ℕ → Bool) (i b : ℕ) (was now : Bool) → b < 256 → 256 ≤ i → now ≡ (was || (nat_lt b i && f b)) → now ≡ (was || f b)
bytes_done f i b was now lt le before = let test : nat_lt b i ≡ true = grind (arith, nat_tests) in before ∙ ap (λ x. was || (x && f b)) test

includes_one : (bs : List ℕ) (b i : ℕ) → i < length bs → includes (drop i bs) b ≡ ((b == get_or bs i 0) || includes (drop (suc i) bs) b)
includes_one [] b i lt = absurd (omega arith)
includes_one (x ∷ bs) b zero lt = refl
includes_one (x ∷ bs) b (suc i) lt = includes_one bs b i (omega arith)

pub includes_step : (bs : List ℕ) (b i : ℕ) (now next w : Bool) → i < length bs → next ≡ (now || (b == get_or bs i 0)) →
    (now || includes (drop i bs) b) ≡ w → (next || includes (drop (i + 1) bs) b) ≡ w
includes_step bs b i now next w lt adds before =
    let same : i + 1 ≡ suc i = omega arith in
    ap₂ (λ (x : Bool) (k : ℕ). x || includes (drop k bs) b) adds same
    ∙ or_assoc now (b == get_or bs i 0) (includes (drop (suc i) bs) b)
    ∙ ap (λ x. now || x) (sym (includes_one bs b i lt)) ∙ before

pub includes_done : (bs : List ℕ) (b i : ℕ) (now w : Bool) → length bs ≤ i → (now || includes (drop i bs) b) ≡ w → now ≡ w
includes_done bs b i now w le before = sym (or_nothing now) ∙ sym (ap (λ (x : List ℕ). now || includes x b) (drop_past bs i le)) ∙ before

-- members between two numbers

not_after : (es : List ℕ) (i k : ℕ) → AreRising es → i ≤ k → k < length es → slice_index es i ≤ slice_index es k
not_after es i k rising le lt =
    elim (cases_eq i k) [
      | inl same ↦ rw same (le_refl _)
      | inr other ↦ let less = rising i k (omega arith) lt in omega arith
    ]

-- where the number of edges up to a number is even
module _ (es : List ℕ) (from i : ℕ) (rising : AreRising es) (cut : Cut es i (from + 1)) (even : is_odd i ≡ false) where
  -- there is no member up to the next edge
  pub out_to : (c : ℕ) → from ≤ c → (i < length es → c < slice_index es i) → has es c ≡ false
  out_to c low past =
      has_cut es i c (cut_next (c + 1) cut (omega (arith, low)) (λ k le below. let up = not_after es i k rising le below in let beyond = past (omega (arith, le, below)) in omega arith)) ∙ even

  -- which is a member
  pub next_is : i < length es → has es (slice_index es i) ≡ true
  next_is here =
      let odd : i + 1 ≡ suc i = omega arith in
      has_cut es (i + 1) (slice_index es i) (record {
        count = omega (arith, here);
        before = λ k lt. let up = not_after es k i rising (omega (arith, lt)) here in omega (arith, up);
        after = λ k le below. let up = rising i k (omega (arith, le)) below in omega (arith, up);
      })
      ∙ ap is_odd odd ∙ is_odd-suc i ∙ ap not even

-- some number from the first on and before the last is a member, or none

pub no_member : (es : List ℕ) (first last : ℕ) → ((c : ℕ) → first ≤ c → c < last → has es c ≡ false) → false ≡ some_below last (λ c. nat_le first c && has es c)
no_member es first last none = sym (none_below last (λ c. nat_le first c && has es c) (λ c lt. by_order c lt (nat_le first c) refl)) where
  by_order : (c : ℕ) → c < last → (t : Bool) → nat_le first c ≡ t → (t && has es c) ≡ false
  by_order c lt false e = refl
  by_order c lt true e = none c (le_holds first c e) lt

pub one_between : (es : List ℕ) (first last c : ℕ) → first ≤ c → c < last → has es c ≡ true → true ≡ some_below last (λ c. nat_le first c && has es c)
one_between es first last c from lt e =
    sym (some_below_from last (λ c. nat_le first c && has es c) c lt (both_hold (nat_le first c) (has es c) (grind (arith, nat_tests)) e))

pub first_tells : (es : List ℕ) (first last n : ℕ) → first ≤ n → ((c : ℕ) → first ≤ c → c < n → has es c ≡ false) → has es n ≡ true →
    nat_lt n last ≡ some_below last (λ c. nat_le first c && has es c)
first_tells es first last n from none is = by_order (nat_lt n last) refl where
  by_order : (t : Bool) → nat_lt n last ≡ t → t ≡ some_below last (λ c. nat_le first c && has es c)
  by_order false e = no_member es first last (λ c low lt. none c low (grind (arith, nat_tests, e, lt)))
  by_order true e = one_between es first last n from (lt_holds n last e) is

-- what all members have

two_edges : (m : Meaning) (es : List ℕ) (b i : ℕ) → suc i < length es → is_in_all m (drop i es) b
    ≡ (nat_le (get_or es i 0) (get_or es (suc i) 0) && (is_in_each m (get_or es (suc i) 0 - get_or es i 0) (get_or es i 0) b && is_in_all m (drop (suc (suc i)) es) b))
two_edges m [] b i lt = absurd (omega arith)
two_edges m (e ∷ []) b i lt = absurd (omega arith)
two_edges m (e ∷ f ∷ es) b zero lt = refl
two_edges m (e ∷ f ∷ es) b (suc i) lt = two_edges m (f ∷ es) b i (omega arith)

pub all_two : (m : Meaning) (es : List ℕ) (b i : ℕ) → i + 1 < length es → is_in_all m (drop i es) b
    ≡ (nat_le (get_or es i 0) (get_or es (i + 1) 0) && (is_in_each m (get_or es (i + 1) 0 - get_or es i 0) (get_or es i 0) b && is_in_all m (drop (i + 2) es) b))
all_two m es b i lt =
    let one : suc i ≡ i + 1 = omega arith in
    let two : suc (suc i) ≡ i + 2 = omega arith in
    two_edges m es b i (omega arith)
    ∙ ap₂ (λ (k l : ℕ). nat_le (get_or es i 0) (get_or es k 0) && (is_in_each m (get_or es k 0 - get_or es i 0) (get_or es i 0) b && is_in_all m (drop l es) b)) one two

pub all_one : (m : Meaning) (es : List ℕ) (b i : ℕ) → i + 1 ≡ length es → is_in_all m (drop i es) b ≡ false
all_one m [] b i e = absurd (omega arith)
all_one m (x ∷ []) b zero e = refl
all_one m (x ∷ []) b (suc i) e = absurd (omega arith)
all_one m (x ∷ y ∷ es) b zero e = absurd (omega arith)
all_one m (x ∷ y ∷ es) b (suc i) e = all_one m (y ∷ es) b i (omega arith)

with_order : (t now each more w : Bool) → t ≡ true → (now && (t && (each && more))) ≡ w → ((now && each) && more) ≡ w
with_order true now each more w e before = and_assoc now each more ∙ before
with_order false now each more w e before = absurd (true≢false (sym e))

without_order : (t now rest w : Bool) → t ≡ false → (now && (t && rest)) ≡ w → false ≡ w
without_order true now rest w e before = absurd (true≢false e)
without_order false now rest w e before = sym (and_never now) ∙ before

-- the part between the edges at i and i + 1
pub part_step : (m : Meaning) (es : List ℕ) (b i : ℕ) (now next w : Bool) → i + 1 < length es → get_or es i 0 ≤ get_or es (i + 1) 0 →
    next ≡ (now && is_in_each m (get_or es (i + 1) 0 - get_or es i 0) (get_or es i 0) b) → (now && is_in_all m (drop i es) b) ≡ w →
    (next && is_in_all m (drop (i + 2) es) b) ≡ w
part_step m es b i now next w lt le keeps before =
    let test : nat_le (get_or es i 0) (get_or es (i + 1) 0) ≡ true = grind (arith, nat_tests) in
    ap (λ x. x && is_in_all m (drop (i + 2) es) b) keeps
    ∙ with_order (nat_le (get_or es i 0) (get_or es (i + 1) 0)) now _ _ w test (ap (λ x. now && x) (sym (all_two m es b i lt)) ∙ before)

pub part_reversed : (m : Meaning) (es : List ℕ) (b i : ℕ) (now w : Bool) → i + 1 < length es → get_or es (i + 1) 0 < get_or es i 0 →
    (now && is_in_all m (drop i es) b) ≡ w → false ≡ w
part_reversed m es b i now w lt gt before =
    let test : nat_le (get_or es i 0) (get_or es (i + 1) 0) ≡ false = grind (arith, nat_tests) in
    without_order (nat_le (get_or es i 0) (get_or es (i + 1) 0)) now _ w test (ap (λ x. now && x) (sym (all_two m es b i lt)) ∙ before)

pub part_open : (m : Meaning) (es : List ℕ) (b i : ℕ) (now w : Bool) → i + 1 ≡ length es → (now && is_in_all m (drop i es) b) ≡ w → false ≡ w
part_open m es b i now w end before = sym (and_never now) ∙ ap (λ x. now && x) (sym (all_one m es b i end)) ∙ before

each_one : (m : Meaning) (n c b : ℕ) → is_in_each m (suc n) c b ≡ ((not (is_item m c) || includes (encoding m c) b) && is_in_each m n (suc c) b)
unfolding is_in_each
each_one m n c b = refl

each_none : (m : Meaning) (n c b : ℕ) → n ≡ 0 → is_in_each m n c b ≡ true
unfolding is_in_each
each_none m n c b e = rw e refl

pub number_step : (m : Meaning) (c last b : ℕ) (now next w : Bool) → c < last → next ≡ (now && (not (is_item m c) || includes (encoding m c) b)) →
    (now && is_in_each m (last - c) c b) ≡ w → (next && is_in_each m (last - (c + 1)) (c + 1) b) ≡ w
number_step m c last b now next w lt keeps before =
    let count : last - c ≡ suc (last - (c + 1)) = omega arith in
    let same : c + 1 ≡ suc c = omega arith in
    ap₂ (λ (x : Bool) (k : ℕ). x && is_in_each m (last - (c + 1)) k b) keeps same
    ∙ and_assoc now _ _
    ∙ ap (λ x. now && x) (sym (each_one m (last - (c + 1)) c b) ∙ ap (λ (n : ℕ). is_in_each m n c b) (sym count))
    ∙ before

pub numbers_done : (m : Meaning) (c last b : ℕ) (now w : Bool) → last ≤ c → (now && is_in_each m (last - c) c b) ≡ w → now ≡ w
numbers_done m c last b now w le before =
    sym (and_nothing now) ∙ ap (λ x. now && x) (sym (each_none m (last - c) c b (omega arith))) ∙ before

each_has : (m : Meaning) (n c b d : ℕ) → is_in_each m n c b ≡ true → c ≤ d → d < c + n → is_item m d ≡ true → includes (encoding m d) b ≡ true
unfolding is_in_each
each_has m zero c b d e from to item = absurd (omega arith)
each_has m (suc n) c b d e from to item =
    let both = parts_of (not (is_item m c) || includes (encoding m c) b) (is_in_each m n (suc c) b) e in
    elim (cases_eq c d) [
      | inl same ↦ of_item (is_item m d) (includes (encoding m d) b) item (rw same at both.0)
      | inr other ↦ each_has m n (suc c) b d both.1 (omega arith) (omega arith) item
    ] where
      of_item : (s t : Bool) → s ≡ true → (not s || t) ≡ true → t ≡ true
      of_item true t h k = k
      of_item false t h k = absurd (true≢false (sym h))

plain : (s t more : Bool) → s ≡ false → t ≡ false → differ s (differ t more) ≡ true → more ≡ true
plain false false more a b h = h
plain true t more a b h = absurd (true≢false a)
plain false true more a b h = absurd (true≢false b)

twice : (s t more : Bool) → s ≡ true → t ≡ true → differ s (differ t more) ≡ true → more ≡ true
twice true true true a b h = refl
twice true true false a b h = h
twice true false more a b h = absurd (true≢false (sym b))
twice false t more a b h = absurd (true≢false (sym a))

-- a member of the first part, or of the others
first_or_later : (e f d : ℕ) (more : Bool) → e ≤ f → differ (nat_le e d) (differ (nat_le f d) more) ≡ true → ((e ≤ d) × (d < f)) ⊎ (more ≡ true)
first_or_later e f d more le h =
    elim (cases_lt d e) [
      | inl below ↦ inr (plain (nat_le e d) (nat_le f d) more (le_fails e d below) (le_fails f d (omega arith)) h)
      | inr from ↦ elim (cases_lt d f) [
        | inl inside ↦ inl (from, inside)
        | inr past ↦ inr (twice (nat_le e d) (nat_le f d) more (le_test e d from) (le_test f d past) h)
      ]
    ]

-- the byte stands in the encoding of each member that is an item
pub all_have : (m : Meaning) (es : List ℕ) (b d : ℕ) → is_in_all m es b ≡ true → has es d ≡ true → is_item m d ≡ true → includes (encoding m d) b ≡ true
unfolding has
all_have m [] b d e h item = absurd (true≢false (sym h))
all_have m (x ∷ []) b d e h item = absurd (true≢false (sym e))
all_have m (x ∷ y ∷ es) b d e h item =
    let order = parts_of (nat_le x y) _ e in
    let both = parts_of (is_in_each m (y - x) x b) (is_in_all m es b) order.1 in
    let rises : x ≤ y = le_holds x y order.0 in
    elim (first_or_later x y d (has es d) rises h) [
      | inl here ↦ each_has m (y - x) x b d both.0 here.0 (let a = here.0 in let c = here.1 in omega arith) item
      | inr later ↦ all_have m es b d both.1 later item
    ]
