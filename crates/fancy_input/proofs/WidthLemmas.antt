-- The character that ends at a place: the bytes before it that continue one tell its width.
use Rattle.std.proofs.Common.{◌≡◌, ℕ, zero, suc, ◌+◌, ◌-◌, ◌<◌, ◌≤◌, Bool, List, ◌++◌, length, get_or, inl, inr, subst, true, false, Option, Some, None, if◌then◌else◌, sym, refl, ap, ◌∙◌, arith, ne_eqb, get_or-drop, add-zero}
use Rattle.std.specs.Prelude.{is_some}
use Rattle.std.specs.Option.{option_or}
use Rattle.std.specs.Char.{len_utf8, encode_utf8}
use Rattle.std.proofs.Math.Nat.{eq-or-lt_of_le}
use Rattle.std.proofs.lemmas.Bool.{leb-true, both_ways, cases_lt, cases_order}
use Rattle.std.proofs.lemmas.Bool.Decides.{nat_tests}
use Rattle.std.proofs.lemmas.Str.{len_utf8_bounds}
use Rattle.fancy_input.specs.Places.{is_continuation, if_wide, char_at, char_before, char_of_width_before}
use Rattle.fancy_input.proofs.CharacterLemmas.{char_at-bytes, char_at-fits}

-- of a character's bytes the first continues none, and each later one does
first_leads : (c : ℕ) (rest : List ℕ) → is_continuation (get_or (encode_utf8 c ++ rest) 0 0) ≡ false
unfolding encode_utf8
first_leads c rest = grind (arith, nat_tests)

later_continues : (c : ℕ) (rest : List ℕ) (j : ℕ) → 1 ≤ j → j < len_utf8 c → is_continuation (get_or (encode_utf8 c ++ rest) j 0) ≡ true
unfolding encode_utf8
later_continues c rest zero some within = absurd (omega arith)
later_continues c rest (suc zero) some within = grind (arith, nat_tests)
later_continues c rest (suc (suc zero)) some within = grind (arith, nat_tests)
later_continues c rest (suc (suc (suc zero))) some within = grind (arith, nat_tests)
later_continues c rest (suc (suc (suc (suc j)))) some within = absurd (omega (arith, (len_utf8_bounds c).1))

no_option : (o : Option ℕ) → is_some o ≡ false → o ≡ None
no_option None e = refl
no_option (Some x) e = cc

or_first : (o w : Option ℕ) → is_some o ≡ true → o ≡ option_or o w
or_first None w e = cc
or_first (Some x) w e = refl

or_second : (o w : Option ℕ) → o ≡ None → w ≡ option_or o w
or_second None w e = refl
or_second (Some x) w e = cc

if_none : (b : Bool) (k : ℕ) (o : Option ℕ) → (b ≡ true → (c : ℕ) → o ≡ Some c → len_utf8 c ≡ k → ⊥) → (if b then if_wide k o else None) ≡ None
if_none false k o f = refl
if_none true k None f = refl
if_none true k (Some c) f = ap (λ (t : Bool). if t then Some c else None) (ne_eqb (len_utf8 c) k (f refl c refl))

module _ (haystack : List ℕ) (p : ℕ) where
  wide : ℕ → Option ℕ
  wide n = char_of_width_before haystack n p

  abbrev pub NoneBelow : ℕ → Type 0
  NoneBelow n = (k : ℕ) → 1 ≤ k → k < n → char_of_width_before haystack k p ≡ None

  pub one_found : (n : ℕ) → 1 ≤ n → n < 5 → NoneBelow n → is_some (char_of_width_before haystack n p) ≡ true → char_of_width_before haystack n p ≡ char_before haystack p
  unfolding char_before wide
  one_found zero low high below e = absurd (omega arith)
  one_found (suc zero) low high below e = or_first (wide 1) _ e
  one_found (suc (suc zero)) low high below e = or_first (wide 2) _ e ∙ or_second (wide 1) _ (below 1 (omega arith) (omega arith))
  one_found (suc (suc (suc zero))) low high below e =
      or_first (wide 3) _ e ∙ or_second (wide 2) _ (below 2 (omega arith) (omega arith)) ∙ or_second (wide 1) _ (below 1 (omega arith) (omega arith))
  one_found (suc (suc (suc (suc zero)))) low high below e =
      or_second (wide 3) _ (below 3 (omega arith) (omega arith)) ∙ or_second (wide 2) _ (below 2 (omega arith) (omega arith)) ∙ or_second (wide 1) _ (below 1 (omega arith) (omega arith))
  one_found (suc (suc (suc (suc (suc n))))) low high below e = absurd (omega arith)

  pub none_found : NoneBelow 5 → None ≡ char_before haystack p
  unfolding char_before wide
  none_found below =
      sym (below 4 (omega arith) (omega arith))
      ∙ or_second (wide 3) _ (below 3 (omega arith) (omega arith)) ∙ or_second (wide 2) _ (below 2 (omega arith) (omega arith)) ∙ or_second (wide 1) _ (below 1 (omega arith) (omega arith))

  -- each of the bytes less than n before p continues a character
  abbrev pub Continued : ℕ → Type 0
  Continued n = (k : ℕ) → 1 ≤ k → k < n → is_continuation (get_or haystack (p - k) 0) ≡ true

  pub one_more : (n : ℕ) → Continued n → is_continuation (get_or haystack (p - n) 0) ≡ true → Continued (n + 1)
  one_more n before here k low high =
      let k_le : k ≤ n = omega arith in
      elim (eq-or-lt_of_le k_le) [
        | inl same ↦ subst (λ (m : ℕ). is_continuation (get_or haystack (p - m) 0) ≡ true) (sym same) here
        | inr less ↦ before k low less
      ]

  -- no character of k bytes ends at p
  none_wide : (k : ℕ) → (k ≤ p → (c : ℕ) → char_at haystack (p - k) ≡ Some c → len_utf8 c ≡ k → ⊥) → char_of_width_before haystack k p ≡ None
  none_wide k f = if_none _ k (char_at haystack (p - k)) (λ fits c e width. f (leb-true k p fits) c e width)

  -- the bytes of a character that stands at i
  byte_of : (i c j : ℕ) → char_at haystack i ≡ Some c → (rest : List ℕ) × (get_or haystack (i + j) 0 ≡ get_or (encode_utf8 c ++ rest) j 0)
  byte_of i c j e =
      let stands = char_at-bytes haystack i c e in
      (stands.1, sym (get_or-drop i haystack j 0) ∙ ap (λ (l : List ℕ). get_or l j 0) stands.2)

  starts_none : (i c : ℕ) → char_at haystack i ≡ Some c → is_continuation (get_or haystack i 0) ≡ true → ⊥
  starts_none i c e here =
      let first = byte_of i c 0 e in
      both_ways (is_continuation (get_or haystack i 0))
      (ap (λ (k : ℕ). is_continuation (get_or haystack k 0)) (sym (add-zero i)) ∙ ap is_continuation first.1 ∙ first_leads c first.0) here

  below : (n k : ℕ) → Continued n → 1 ≤ k → k < n → char_of_width_before haystack k p ≡ None
  below n k before low high = none_wide k (λ fits c e width. starts_none (p - k) c e (before k low high))

  above : (n k : ℕ) → 1 ≤ n → n < k → is_continuation (get_or haystack (p - n) 0) ≡ false → char_of_width_before haystack k p ≡ None
  above n k some more stops = none_wide k (λ fits c e width.
      let later = byte_of (p - k) c (k - n) e in
      let same : p - n ≡ p - k + (k - n) = omega arith in
      both_ways (is_continuation (get_or haystack (p - n) 0)) stops
      (ap (λ (i : ℕ). is_continuation (get_or haystack i 0)) same ∙ ap is_continuation later.1
      ∙ later_continues c later.0 (k - n) (omega arith) (omega (arith, width))))

  outside : (k : ℕ) → p < k → char_of_width_before haystack k p ≡ None
  outside k more = none_wide k (λ fits c e width. absurd (omega arith))

  past : (k : ℕ) → length haystack < p → char_of_width_before haystack k p ≡ None
  past k over = none_wide k (λ fits c e width. absurd (omega (arith, width, char_at-fits haystack (p - k) c e)))

  module _ (n : ℕ) (before : Continued n) where
    -- the haystack does not reach n bytes back
    pub none_outside : p < n → n < 5 → None ≡ char_before haystack p
    none_outside outer high = none_found (λ k low below_five. elim (cases_lt k n) [
      | inl less ↦ below n k before low less
      | inr more ↦ outside k (omega arith)
    ])

    -- the byte that is n back continues no character: only n bytes can be one
    pub one_there : 1 ≤ n → n < 5 → is_continuation (get_or haystack (p - n) 0) ≡ false → char_of_width_before haystack n p ≡ char_before haystack p
    unfolding wide
    one_there low high stops = at (is_some (wide n)) refl where
      at : (b : Bool) → is_some (wide n) ≡ b → char_of_width_before haystack n p ≡ char_before haystack p
      at true some = one_found n low high (λ k some less. below n k before some less) some
      at false none = no_option (wide n) none ∙ none_found (λ k some below_five. elim (cases_order k n) [
        | inl same ↦ subst (λ (m : ℕ). char_of_width_before haystack m p ≡ None) (sym same) (no_option (wide n) none)
        | inr (inl less) ↦ below n k before some less
        | inr (inr more) ↦ above n k low more stops
      ])

  pub none_past : length haystack < p → None ≡ char_before haystack p
  none_past over = none_found (λ k low high. past k over)

  pub none_continued : Continued 5 → None ≡ char_before haystack p
  none_continued before = none_found (λ k low high. below 5 k before low high)
