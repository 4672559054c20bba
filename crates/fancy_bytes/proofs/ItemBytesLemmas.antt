-- The bytes of items.
use Rattle.std.proofs.Common.{◌≡◌, ℕ, zero, suc, ◌+◌, ◌%◌, ◌<◌, ◌≤◌, ◌==◌, Bool, true, false, not, List, [], ◌∷◌, length, inl, inr, refl, sym, ap, ◌∙◌, arith, slice_index, eqb-true}
use Rattle.std.proofs.lemmas.Bool.Decides.{nat_tests}
use Rattle.std.proofs.lemmas.Bool.{cases_lt, le-leb}
use Rattle.std.proofs.lemmas.Str.{length-encode, len_utf8_bounds}
use Rattle.std.specs.Char.{len_utf8, encode_utf8}
use Rattle.fancy_tree.specs.Sets.{has, differ, is_odd}
use Rattle.fancy_bytes.specs.Sets.{ByteFlags, member}
use Rattle.fancy_bytes.specs.Rows.{set_at, HasEncoding, Wider}

-- each byte of a character past ASCII is above those of ASCII
high_byte : (c i : ℕ) → 128 ≤ c → i < len_utf8 c → 128 ≤ slice_index (encode_utf8 c) i
unfolding encode_utf8
high_byte c zero high lt = grind (arith, nat_tests)
high_byte c (suc zero) high lt = grind (arith, nat_tests)
high_byte c (suc (suc zero)) high lt = grind (arith, nat_tests)
high_byte c (suc (suc (suc zero))) high lt = grind (arith, nat_tests)
high_byte c (suc (suc (suc (suc i)))) high lt = absurd (omega (arith, lt, (len_utf8_bounds c).1))

pub low_text : (c : ℕ) → c < 128 → encode_utf8 c ≡ c ∷ []
unfolding encode_utf8
low_text c lt = grind (arith, nat_tests)

-- an odd number of edges lies at or below each member, and so of all edges at or below a number past them
odd_next : (n : ℕ) → is_odd (suc n) ≡ not (is_odd n)
unfolding is_odd
odd_next n = grind (arith, nat_tests)

pub passed_edges : (es : List ℕ) (c : ℕ) → ((k : ℕ) → k < length es → slice_index es k ≤ c) → has es c ≡ is_odd (length es)
unfolding has is_odd
passed_edges [] c below = refl
passed_edges (e ∷ es) c below =
    ap (λ (b : Bool). differ b (has es c)) (le-leb e c (below 0 (omega arith)))
    ∙ ap not (passed_edges es c (λ k lt. below (suc k) (omega (arith, lt))))
    ∙ sym (odd_next (length es))

pub none_past : (es : List ℕ) (c : ℕ) → (length es % 2 == 0) ≡ true → ((k : ℕ) → k < length es → slice_index es k ≤ 128) → 128 ≤ c → has es c ≡ false
unfolding is_odd
none_past es c even below past =
    passed_edges es c (λ k lt. omega (arith, below k lt, past)) ∙ ap (λ (r : ℕ). r == 1) (eqb-true (length es % 2) 0 even)

-- what has more sets has an item's bytes where they were
pub wider_encoding : (old new : List ByteFlags) → Wider old new → (from : ℕ) (exact : Bool) (bytes : List ℕ) → HasEncoding old from exact bytes → HasEncoding new from exact bytes
wider_encoding old new w from exact bytes h i j inside small le same lt =
    w.has j (slice_index bytes i) lt small (h i j inside small le same (omega (arith, lt, w.shorter)))

module _ (sets : List ByteFlags) (from : ℕ) (exact : Bool) (c : ℕ) where
  -- the byte of a character that is ASCII
  pub ascii_encoding : c < 128 → ((j : ℕ) → from ≤ j → (exact ≡ true → j ≡ from) → j < length sets → c < 256 → member (set_at sets j) c ≡ true) → HasEncoding sets from exact (encode_utf8 c)
  ascii_encoding ascii low i j inside small le same lt =
      let text : encode_utf8 c ≡ c ∷ [] = low_text c ascii in
      let first : i ≡ 0 = omega (arith, inside, ap length text) in
      let here : slice_index (encode_utf8 c) i ≡ c = ap (λ (l : List ℕ). slice_index l i) text ∙ ap (slice_index (c ∷ [])) first in
      ap (member (set_at sets j)) here ∙ low j (omega (arith, le)) (λ e. omega (arith, same e, first)) lt (omega (arith, ascii))

  -- the bytes of a character, where each set that they come to has the character or all bytes past ASCII
  pub rough_encoding : ((j : ℕ) → from ≤ j → (exact ≡ true → j ≡ from) → j < length sets → c < 128 → member (set_at sets j) c ≡ true)
      → ((i j b : ℕ) → i < 4 → from + i ≤ j → (exact ≡ true → j ≡ from + i) → j < length sets → 128 ≤ b → b < 256 → member (set_at sets j) b ≡ true)
      → HasEncoding sets from exact (encode_utf8 c)
  rough_encoding low high i j inside small le same lt =
      elim (cases_lt c 128) [
        | inl ascii ↦ ascii_encoding ascii (λ k above only within byte. low k above only within ascii) i j inside small le same lt
        | inr past ↦
            let size : i < len_utf8 c = omega (arith, inside, length-encode c) in
            high i j (slice_index (encode_utf8 c) i) (omega (arith, size, (len_utf8_bounds c).1)) le same lt (high_byte c i past size) small
      ]

pub one_byte : (c : ℕ) → len_utf8 c ≤ 1 → c < 128
one_byte c le = elim (cases_lt c 128) [
  | inl lt ↦ lt
  | inr past ↦ absurd (grind (arith, nat_tests))
]

pub wider_on : (a b c : List ByteFlags) → Wider a b → Wider b c → Wider a c
wider_on a b c f g = record {
  shorter = omega (arith, f.shorter, g.shorter);
  has = λ j byte inside small e. g.has j byte inside small (f.has j byte (omega (arith, inside, g.shorter)) small e);
}
