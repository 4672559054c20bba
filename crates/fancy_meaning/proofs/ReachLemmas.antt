-- The character that ends at a place is the one that reaches to there.
use Rattle.std.proofs.Common.{◌≡◌, ℕ, zero, suc, ◌+◌, ◌-◌, ◌<◌, ◌≤◌, ◌==◌, Bool, true, false, List, ◌++◌, get_or, Option, Some, None, if◌then◌else◌, ◌⊎◌, inl, inr, refl, sym, ap, ◌∙◌, arith, true≢false, get_or-drop, add-zero, nat_le, leb-true, eqb-true, eq-eqb}
use Rattle.std.specs.Prelude.{is_some}
use Rattle.std.specs.Char.{len_utf8, encode_utf8}
use Rattle.std.specs.Option.{option_or}
use Rattle.std.proofs.lemmas.Bool.Decides.{nat_tests}
use Rattle.std.proofs.lemmas.Bool.{le-leb}
use Rattle.std.proofs.lemmas.Str.{len_utf8_bounds}
use Rattle.fancy_input.specs.Places.{char_at, char_before, char_of_width_before, if_wide, is_continuation}
use Rattle.fancy_meaning.specs.Laws.{Reaches}
use Rattle.fancy_input.proofs.CharacterLemmas.{char_at-bytes}
use Rattle.fancy_input.proofs.WidthLemmas.{NoneBelow, one_found}

-- the first byte of a character continues none, and each other byte does
first_byte : (c : ℕ) (rest : List ℕ) → is_continuation (get_or (encode_utf8 c ++ rest) 0 0) ≡ false
unfolding encode_utf8
first_byte c rest = grind (arith, nat_tests)

second_byte : (c : ℕ) (rest : List ℕ) → 1 < len_utf8 c → is_continuation (get_or (encode_utf8 c ++ rest) 1 0) ≡ true
unfolding encode_utf8
second_byte c rest h = grind (arith, nat_tests)

third_byte : (c : ℕ) (rest : List ℕ) → 2 < len_utf8 c → is_continuation (get_or (encode_utf8 c ++ rest) 2 0) ≡ true
unfolding encode_utf8
third_byte c rest h = grind (arith, nat_tests)

fourth_byte : (c : ℕ) (rest : List ℕ) → 3 < len_utf8 c → is_continuation (get_or (encode_utf8 c ++ rest) 3 0) ≡ true
unfolding encode_utf8
fourth_byte c rest h = grind (arith, nat_tests)

later_byte : (c : ℕ) (rest : List ℕ) (k : ℕ) → 1 ≤ k → k < len_utf8 c → is_continuation (get_or (encode_utf8 c ++ rest) k 0) ≡ true
later_byte c rest zero low high = absurd (omega arith)
later_byte c rest (suc zero) low high = second_byte c rest high
later_byte c rest (suc (suc zero)) low high = third_byte c rest high
later_byte c rest (suc (suc (suc zero))) low high = fourth_byte c rest high
later_byte c rest (suc (suc (suc (suc k)))) low high = absurd (omega (arith, (len_utf8_bounds c).1))

then_some : (b : Bool) (o : Option ℕ) (c : ℕ) → (if b then o else None) ≡ Some c → (b ≡ true) × (o ≡ Some c)
then_some true o c e = (refl, e)
then_some false o c e = cc

then_is : (b : Bool) (o : Option ℕ) → b ≡ true → (if b then o else None) ≡ o
then_is true o e = refl
then_is false o e = cc

some_inside : (d c : ℕ) → Some d ≡ Some c → d ≡ c
some_inside d c e = cc

wide_some : (n : ℕ) (o : Option ℕ) (c : ℕ) → if_wide n o ≡ Some c → (o ≡ Some c) × (len_utf8 c ≡ n)
wide_some n None c e = cc
wide_some n (Some d) c e =
    let t = then_some (len_utf8 d == n) (Some d) c e in
    let same : d ≡ c = some_inside d c t.1 in
    (t.1, ap len_utf8 (sym same) ∙ eqb-true (len_utf8 d) n t.0)

or_some : (a b : Option ℕ) (c : ℕ) → option_or a b ≡ Some c → (a ≡ Some c) ⊎ (b ≡ Some c)
or_some None b c e = inr e
or_some (Some x) b c e = inl e

no_some : (o : Option ℕ) → ((c : ℕ) → o ≡ Some c → ⊥) → o ≡ None
no_some None f = refl
no_some (Some c) f = absurd (f c refl)

module _ (haystack : List ℕ) where
  -- the bytes of the character at i
  byte_of : (i c k : ℕ) → (at : char_at haystack i ≡ Some c) → get_or haystack (i + k) 0 ≡ get_or (encode_utf8 c ++ (char_at-bytes haystack i c at).1) k 0
  byte_of i c k at = sym (get_or-drop i haystack k 0) ∙ ap (λ (bs : List ℕ). get_or bs k 0) (char_at-bytes haystack i c at).2

  starts_clear : (i c : ℕ) → char_at haystack i ≡ Some c → is_continuation (get_or haystack i 0) ≡ false
  starts_clear i c at =
      ap (λ (k : ℕ). is_continuation (get_or haystack k 0)) (sym (add-zero i)) ∙ ap is_continuation (byte_of i c 0 at) ∙ first_byte c (char_at-bytes haystack i c at).1

  goes_on : (i c k : ℕ) → char_at haystack i ≡ Some c → 1 ≤ k → k < len_utf8 c → is_continuation (get_or haystack (i + k) 0) ≡ true
  goes_on i c k at low high = ap is_continuation (byte_of i c k at) ∙ later_byte c (char_at-bytes haystack i c at).1 k low high

  -- no character starts inside another one
  none_inside : (i c k d : ℕ) → char_at haystack i ≡ Some c → 1 ≤ k → k < len_utf8 c → char_at haystack (i + k) ≡ Some d → ⊥
  none_inside i c k d at low high other = true≢false (sym (goes_on i c k at low high) ∙ starts_clear (i + k) d other)

  -- what a character of n bytes that ends at p is
  before_parts : (n p c : ℕ) → char_of_width_before haystack n p ≡ Some c → (n ≤ p) × (char_at haystack (p - n) ≡ Some c) × (len_utf8 c ≡ n)
  before_parts n p c e =
      let t = then_some (nat_le n p) (if_wide n (char_at haystack (p - n))) c e in
      let w = wide_some n (char_at haystack (p - n)) c t.1 in
      (leb-true n p t.0, w.0, w.1)

  before_reaches : (n p c : ℕ) → char_of_width_before haystack n p ≡ Some c → Reaches haystack p c
  before_reaches n p c e =
      let parts = before_parts n p c e in
      record { start = p - n; starts = parts.1; reaches = omega (arith, parts.0, parts.2) }

  pub reaches_of : (p c : ℕ) → char_before haystack p ≡ Some c → Reaches haystack p c
  unfolding char_before
  reaches_of p c e =
      elim (or_some (char_of_width_before haystack 1 p) _ c e) [
        | inl one ↦ before_reaches 1 p c one
        | inr wider ↦ elim (or_some (char_of_width_before haystack 2 p) _ c wider) [
          | inl two ↦ before_reaches 2 p c two
          | inr wider ↦ elim (or_some (char_of_width_before haystack 3 p) _ c wider) [
            | inl three ↦ before_reaches 3 p c three
            | inr four ↦ before_reaches 4 p c four
          ]
        ]
      ]

  wide_is : (i c p : ℕ) → char_at haystack i ≡ Some c → i + len_utf8 c ≡ p → char_of_width_before haystack (len_utf8 c) p ≡ Some c
  wide_is i c p at e =
      let le : len_utf8 c ≤ p = omega (arith, e) in
      let back : p - len_utf8 c ≡ i = omega (arith, e) in
      then_is (nat_le (len_utf8 c) p) _ (le-leb _ _ le)
      ∙ ap (λ (k : ℕ). if_wide (len_utf8 c) (char_at haystack k)) back
      ∙ ap (if_wide (len_utf8 c)) at
      ∙ then_is (len_utf8 c == len_utf8 c) (Some c) (eq-eqb _ _ refl)

  pub ends_of : (p c : ℕ) → Reaches haystack p c → char_before haystack p ≡ Some c
  ends_of p c r =
      let here = wide_is r.start c p r.starts r.reaches in
      let below : NoneBelow haystack p (len_utf8 c) = λ k low high. no_some (char_of_width_before haystack k p) (λ d e.
      let parts = before_parts k p d e in
      let inside : p - k ≡ r.start + (len_utf8 c - k) = omega (arith, r.reaches, high) in
      none_inside r.start c (len_utf8 c - k) d r.starts (omega (arith, high)) (omega (arith, low, high))
      (ap (char_at haystack) (sym inside) ∙ parts.1)) in
      sym (one_found haystack p (len_utf8 c) (len_utf8_bounds c).0 (omega (arith, (len_utf8_bounds c).1)) below (ap is_some here)) ∙ here
