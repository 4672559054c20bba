-- What vectors of 32 bytes hold, lane by lane.
use Rattle.std.proofs.Common.{◌≡◌, ℕ, ◌+◌, ◌*◌, ◌/◌, ◌%◌, ◌^◌, ◌<◌, Bool, true, false, not, cond, eqb, List, length, get_or, map, replicate, refl, sym, ap, ap₂, subst, ◌∙◌, arith, w8, bit_and}
use Rattle.std.specs.Int.{bit_at}
use Rattle.std.specs.Simd.Lanes.{chunk, zip2, mask_l, top}
use Rattle.std.proofs.lemmas.Simd.{get_or-chunk, length-zip2, get_or-zip2, get_or-replicate, bit_mask_l, bitmask_splat, mask_l-lt, length-swz_l, get_or-swz_l_below, swz_l, SwzOk, SwzOk-from_below, Each1-from_get_or}
use Rattle.std.proofs.lemmas.Bool.Decides.{nat_tests}
use Rattle.std.proofs.lemmas.List.{length-map, get_or-map}
use Rattle.fancy_prefilter.specs.HalfTables.{AreLanes, AreMarks, LetsThrough}

-- an operator on the lanes and one number
pub lanes_with : (f : ℕ → ℕ → ℕ) (lanes : List ℕ) (x : ℕ) → length lanes ≡ 32 → AreLanes (λ k. f (get_or lanes k 0) x) (zip2 f lanes (replicate 32 x))
lanes_with f lanes x long = record {
  all = length-zip2 f lanes (replicate 32 x) long ∙ long;
  each = λ k lt. get_or-zip2 f lanes (replicate 32 x) k 0 0 0 (omega arith) lt ∙ ap (f (get_or lanes k 0)) (get_or-replicate 32 k x 0 lt);
}

module _ (table wide places : List ℕ) (place_of : ℕ → ℕ) (wide_is : AreLanes (λ k. get_or table (k % 16) 0) wide) (places_are : AreLanes place_of places)
    (small : (k : ℕ) → k < 32 → place_of k < 16) where
  below : (k : ℕ) → k < 32 → get_or places k 0 < 16
  below k lt = omega (arith, places_are.each k lt, small k lt)

  -- places in a table of 16 may be read
  pub places_fit : SwzOk w8 16 32 0 places
  places_fit =
      SwzOk-from_below w8 16 2 32 0 places refl (omega (arith, places_are.all)) (Each1-from_get_or (λ j. j < 16) places 0 (λ i lt. below i (omega (arith, lt, places_are.all))))

  -- and each lane reads the entry at its place
  pub entries_read : AreLanes (λ k. get_or table (place_of k) 0) (swz_l w8 16 wide 0 places)
  entries_read = record {
    all = length-swz_l w8 16 wide 0 places ∙ places_are.all;
    each = λ k lt.
        let is = places_are.each k lt in
        let low = small k lt in
        get_or-swz_l_below w8 16 wide 0 places k (omega (arith, lt, places_are.all)) (below k lt)
        ∙ wide_is.each (16 * ((0 + k) / 16) + get_or places k 0) (omega arith)
        ∙ ap (λ (j : ℕ). get_or table j 0) (omega arith);
  }

-- is not zero
abbrev pub is_some_bit : ℕ → Bool
is_some_bit x = not (eqb x 0)

some_bit : (x : ℕ) → 0 < x → is_some_bit x ≡ true
some_bit x more = grind (arith, nat_tests)

-- the mask of the lanes in which two vectors have a bit in common
pub common_set : (a b : List ℕ) (k : ℕ) → length a ≡ 32 → length b ≡ 32 → k < 32 → 0 < bit_and (get_or a k 0) (get_or b k 0)
    → bit_at (mask_l (map is_some_bit (zip2 bit_and a b))) k ≡ 1
common_set a b k long_a long_b lt common =
    let long : length (zip2 bit_and a b) ≡ 32 = length-zip2 bit_and a b (long_a ∙ sym long_b) ∙ long_a in
    bit_mask_l (map is_some_bit (zip2 bit_and a b)) k
    ∙ ap (λ (t : Bool). cond {A = ℕ} t 1 0)
    (get_or-map is_some_bit (zip2 bit_and a b) k 0 false (omega (arith, long, lt))
    ∙ ap is_some_bit (get_or-zip2 bit_and a b k 0 0 0 (omega (arith, long_a, lt)) (omega (arith, long_b, lt)))
    ∙ some_bit (bit_and (get_or a k 0) (get_or b k 0)) common)

-- it has 32 bits at most
pub common_few : (a b : List ℕ) → length a ≡ 32 → length b ≡ 32 → mask_l (map is_some_bit (zip2 bit_and a b)) < 4294967296
common_few a b long_a long_b =
    let long : length (map is_some_bit (zip2 bit_and a b)) ≡ 32 = length-map (zip2 bit_and a b) is_some_bit ∙ length-zip2 bit_and a b (long_a ∙ sym long_b) ∙ long_a in
    subst (λ (n : ℕ). mask_l (map is_some_bit (zip2 bit_and a b)) < 2 ^ n) long (mask_l-lt (map is_some_bit (zip2 bit_and a b)))

-- what `to_bitmask` gives of the comparison with zero
pub mask_of_common : (a b : List ℕ) → length a ≡ 32 → length b ≡ 32
    → mask_l (map (top 7) (zip2 (λ x y. cond (not (eqb x y)) 255 0) (zip2 bit_and a b) (replicate 32 0))) % 2 ^ 64 ≡ mask_l (map is_some_bit (zip2 bit_and a b))
mask_of_common a b long_a long_b =
    bitmask_splat w8 (λ x y. not (eqb x y)) (zip2 bit_and a b) 32 0 (length-zip2 bit_and a b (long_a ∙ sym long_b) ∙ long_a) (omega arith)

-- the marks of the bytes that two tables let through, of 32 bytes that are read from a haystack
pub marks_are : (low high haystack lows highs : List ℕ) (place marks : ℕ) → AreLanes (λ k. get_or low (get_or (chunk place 32 haystack) k 0 % 16) 0) lows
    → AreLanes (λ k. get_or high (get_or (chunk place 32 haystack) k 0 / 16) 0) highs
    → ((k : ℕ) → k < 32 → 0 < bit_and (get_or lows k 0) (get_or highs k 0) → bit_at marks k ≡ 1) → marks < 4294967296
    → AreMarks (λ p. LetsThrough low high (get_or haystack p 0)) place marks
marks_are low high haystack lows highs place marks lows_are highs_are common few = record {
  each = λ k lt through.
      let byte = get_or-chunk place 32 haystack k 0 lt in
      common k lt
      (subst (λ (n : ℕ). 0 < n)
      (sym (ap₂ bit_and (lows_are.each k lt ∙ ap (λ (b : ℕ). get_or low (b % 16) 0) byte) (highs_are.each k lt ∙ ap (λ (b : ℕ). get_or high (b / 16) 0) byte)))
      through);
  few = few;
}
