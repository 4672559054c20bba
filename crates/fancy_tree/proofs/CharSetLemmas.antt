-- Lemmas on bits in words, and on words that are the table of a set.
use Rattle.std.proofs.Common.{arith, ℕ, ◌+◌, ◌-◌, Bool, true, false, not, ◌≡◌, ◌≢◌, ◌↔◌, ◌<◌, ◌≤◌, ◌/◌, ◌%◌, ◌*◌, ◌^◌, ◌==◌, nat_le, List, [], ◌∷◌, replicate, length, take, slice_index, slice_set, bit_or, bit_xor, w64, sym, ◌∙◌, ap, ⊎_elim, inl, inr, refl, eq-eqb, eqb-true}
use Rattle.std.specs.Int.{bit_at}
use Rattle.std.proofs.lemmas.List.{get_or-set_same, get_or-set_other, get_or-replicate, take_more}
use Rattle.std.proofs.lemmas.Nat.Bits.{bit_at_set_same, bit_at_set_other, bit_at-zero, bit_at-lt, bit_at_ones, bit_at_xor, bit_at_mask_inside, bit_at_mask_below, ones_shl}
use Rattle.std.proofs.lemmas.Bool.{cases_eq, cases_lt}
use Rattle.std.proofs.lemmas.Bool.Decides.{nat_tests}
use Rattle.fancy_tree.specs.CharSet.{bit, IsTable}
use Rattle.fancy_tree.specs.Sets.{differ, has, is_odd, AreRising}
use Rattle.fancy_tree.specs.SetViews.{Cut}
use Rattle.fancy_tree.proofs.EdgesLemmas.{differ-false, has_front, has_take, has-append, has-one, le_true, le_false}

pub set_same : (ws : List ℕ) (i x : ℕ) → i / 64 < length ws → bit (slice_set ws (i / 64) (bit_or x (1 * 2 ^ (i % 64) % 18446744073709551616))) i ≡ 1
unfolding bit
set_same ws i x p = rw (get_or-set_same ws (i / 64) (bit_or x (1 * 2 ^ (i % 64) % 18446744073709551616)) 0 p) (bit_at_set_same w64 x (i % 64) (omega arith))

pub set_other : (ws : List ℕ) (i x : ℕ) → i / 64 < length ws → x ≡ slice_index ws (i / 64) → (j : ℕ) → j ≢ i → bit (slice_set ws (i / 64) (bit_or x (1 * 2 ^ (i % 64) % 18446744073709551616))) j ≡ bit ws j
unfolding bit
set_other ws i x p e j d =
    ⊎_elim
    (λ (same : j / 64 ≡ i / 64). rw (same, get_or-set_same ws (i / 64) (bit_or x (1 * 2 ^ (i % 64) % 18446744073709551616)) 0 p) (bit_at_set_other w64 x (i % 64) (omega arith) (j % 64) (λ m. d (omega arith)) ∙ ap (λ y. bit_at y (j % 64)) e))
    (λ (other : j / 64 ≢ i / 64). rw (get_or-set_other ws (i / 64) (j / 64) (bit_or x (1 * 2 ^ (i % 64) % 18446744073709551616)) 0 other) refl)
    (cases_eq (j / 64) (i / 64))

pub bit_clear : (n i : ℕ) → i / 64 < n → bit (replicate n 0) i ≡ 0
unfolding bit
bit_clear n i p = ap (λ y. bit_at y (i % 64)) (get_or-replicate {A = ℕ} n (i / 64) 0 0 p) ∙ bit_at-zero (i % 64)

-- ---- the word of 64 numbers

-- the first i edges are below the end of the 64 numbers, the others not below the first number, and the bits say who is a member by the first i edges
pub record WordTo (es : List ℕ) (first i word : ℕ) : Type 0 where
  pub count : i ≤ length es
  pub before : (k : ℕ) → k < i → slice_index es k < first + 64
  pub after : (k : ℕ) → i ≤ k → k < length es → first ≤ slice_index es k
  pub bits : (k : ℕ) → k < 64 → (bit_at word k == 1) ≡ has (take i es) (first + k)

-- where no edge among the numbers was passed, all are alike
word_start : (es : List ℕ) (first i word : ℕ) → Cut es i first → ((k : ℕ) → k < 64 → (bit_at word k == 1) ≡ is_odd i) → WordTo es first i word
word_start es first i word cut alike = record {
  count = cut.count;
  before = λ k lt. let x = cut.before k lt in omega arith;
  after = cut.after;
  bits = λ k lt. alike k lt ∙ sym (has_front es i (first + k) cut.count (λ j below. let x = cut.before j below in omega arith));
}

pub word_full : (es : List ℕ) (first i word : ℕ) → Cut es i first → is_odd i ≡ true → word ≡ 18446744073709551615 → WordTo es first i word
word_full es first i word cut odd is =
    word_start es first i word cut
    (λ k lt. eq-eqb (bit_at word k) 1 (ap (λ w. bit_at w k) is ∙ bit_at_ones 64 k lt) ∙ sym odd)

pub word_clear : (es : List ℕ) (first i word : ℕ) → Cut es i first → is_odd i ≡ false → word ≡ 0 → WordTo es first i word
word_clear es first i word cut even is =
    word_start es first i word cut
    (λ k lt. ap (λ v. v == 1) (ap (λ w. bit_at w k) is ∙ bit_at-zero k) ∙ sym even)

differ-true : (b : Bool) → differ b true ≡ not b
differ-true true = refl
differ-true false = refl

flipped : (x : ℕ) → x < 2 → ((x + 1) % 2 == 1) ≡ not (x == 1)
flipped x lt = grind (arith, nat_tests)

same_bit : (x : ℕ) → x < 2 → ((x + 0) % 2 == 1) ≡ (x == 1)
same_bit x lt = grind (arith, nat_tests)

-- an edge turns the bits from its own on
turned : (x m : ℕ) (b t : Bool) → x < 2 → (x == 1) ≡ b → m ≡ 1 → t ≡ true → ((x + m) % 2 == 1) ≡ differ b t
turned x m b t lt e one past =
    ap (λ n. (x + n) % 2 == 1) one ∙ (flipped x lt ∙ (ap not e ∙ (sym (differ-true b) ∙ ap (differ b) (sym past))))

kept : (x m : ℕ) (b t : Bool) → x < 2 → (x == 1) ≡ b → m ≡ 0 → t ≡ false → ((x + m) % 2 == 1) ≡ differ b t
kept x m b t lt e none short =
    ap (λ n. (x + n) % 2 == 1) none ∙ (same_bit x lt ∙ (e ∙ (sym (differ-false b) ∙ ap (differ b) (sym short))))

turned_from : (word edge first k : ℕ) (b : Bool) → first ≤ edge → edge < first + 64 → k < 64 → (bit_at word k == 1) ≡ b →
    ((bit_at word k + bit_at (2 ^ 64 - 2 ^ (edge - first)) k) % 2 == 1) ≡ differ b (nat_le edge (first + k))
turned_from word edge first k b low high lt e =
    elim (cases_lt k (edge - first)) [
      | inl short ↦ kept (bit_at word k) (bit_at (2 ^ 64 - 2 ^ (edge - first)) k) b (nat_le edge (first + k)) (bit_at-lt word k) e
          (bit_at_mask_below (edge - first) 64 k short) (le_false edge (first + k) (omega arith))
      | inr past ↦ turned (bit_at word k) (bit_at (2 ^ 64 - 2 ^ (edge - first)) k) b (nat_le edge (first + k)) (bit_at-lt word k) e
          (bit_at_mask_inside (edge - first) 64 k past lt) (le_true edge (first + k) (omega arith))
    ]

pub word_more : (es : List ℕ) (first i word new : ℕ) → WordTo es first i word → i < length es → slice_index es i < first + 64 →
    new ≡ bit_xor word (18446744073709551615 * 2 ^ (slice_index es i - first) % 18446744073709551616) → WordTo es first (i + 1) new
word_more es first i word new w lt high is =
    let low : first ≤ slice_index es i = w.after i (omega arith) lt in
    record {
      count = omega arith;
      before = λ k below. elim (cases_lt k i) [
        | inl less ↦ w.before k less
        | inr more ↦ let same : k ≡ i = omega arith in rw same high
      ];
      after = λ k from within. w.after k (omega arith) within;
      bits = λ k small.
          ap (λ v. bit_at v k == 1) (is ∙ ap (bit_xor word) (ones_shl 64 (slice_index es i - first) (omega arith)))
          ∙ (ap (λ v. v == 1) (bit_at_xor word (2 ^ 64 - 2 ^ (slice_index es i - first)) k)
          ∙ (turned_from word (slice_index es i) first k (has (take i es) (first + k)) low high small (w.bits k small)
          ∙ sym (ap (λ l. has l (first + k)) (take_more es i 0 lt)
          ∙ (has-append (take i es) (slice_index es i ∷ []) (first + k) ∙ ap (differ (has (take i es) (first + k))) (has-one (slice_index es i) (first + k))))));
    }

-- the walk ends at the first edge past the numbers
pub word_cut : (es : List ℕ) (first i word : ℕ) → AreRising es → WordTo es first i word → (i < length es → first + 64 ≤ slice_index es i) → Cut es i (first + 64)
word_cut es first i word rising w stop = record {
  count = w.count;
  before = w.before;
  after = λ k from within. let end : first + 64 ≤ slice_index es i = stop (omega arith) in
      elim (cases_eq k i) [
        | inl same ↦ rw same end
        | inr other ↦ let up = rising i k (omega arith) within in omega arith
      ];
}

told : (v : ℕ) (b : Bool) → (v == 1) ≡ b → (v ≡ 1) ↔ (b ≡ true)
told v b e = (λ one. sym e ∙ eq-eqb v 1 one, λ is. eqb-true v 1 (e ∙ is))

pub word_bits : (es : List ℕ) (first i word : ℕ) → WordTo es first i word → Cut es i (first + 64) → (k : ℕ) → k < 64 → (bit_at word k ≡ 1) ↔ (has es (first + k) ≡ true)
word_bits es first i word w cut k lt =
    told (bit_at word k) (has es (first + k)) (w.bits k lt ∙ has_take es i (first + k) (λ j from within. let x = cut.after j from within in omega arith))

-- ---- tables

-- a table with one more word
pub table_more : (ws : List ℕ) (p : ℕ → Bool) (i word : ℕ) → i < length ws → IsTable ws i p →
    ((k : ℕ) → k < 64 → (bit_at word k ≡ 1) ↔ (p (64 * i + k) ≡ true)) → IsTable (slice_set ws i word) (i + 1) p
unfolding bit
table_more ws p i word within table bits c lt =
    elim (cases_eq (c / 64) i) [
      | inl same ↦
          let at : 64 * i + c % 64 ≡ c = omega arith in
          let here : bit_at (slice_index (slice_set ws i word) (c / 64)) (c % 64) ≡ bit_at word (c % 64) =
          ap (λ w. bit_at w (c % 64)) (ap (slice_index (slice_set ws i word)) same ∙ get_or-set_same ws i word 0 within) in
          let told = bits (c % 64) (omega arith) in
          (λ set. ap p (sym at) ∙ told.0 (sym here ∙ set), λ is. here ∙ told.1 (ap p at ∙ is))
      | inr other ↦
          let here : bit_at (slice_index (slice_set ws i word) (c / 64)) (c % 64) ≡ bit_at (slice_index ws (c / 64)) (c % 64) =
          ap (λ w. bit_at w (c % 64)) (get_or-set_other ws i (c / 64) word 0 other) in
          let told = table c (omega arith) in
          (λ set. told.0 (sym here ∙ set), λ is. here ∙ told.1 is)
    ]
