-- Choices that are told: what is noted.
use Rattle.std.proofs.Common.{◌≡◌, ℕ, zero, suc, ◌+◌, ◌-◌, ◌<◌, ◌≤◌, ◌==◌, false, ◌⊎◌, inl, inr, ◌||◌, List, [], ◌∷◌, ◌++◌, length, Option, Some, None, sym, ◌∙◌, subst, arith, true≢false, eq-eqb, length-append}
use Rattle.std.specs.Prelude.{slice_index_or}
use Rattle.std.proofs.lemmas.Bool.{cases_eq, cases_lt}
use Rattle.std.proofs.lemmas.List.{get_or_append_left, get_or-append_right}
use Rattle.std.proofs.lemmas.Option.{slice_get_within}
use Rattle.fancy_bytes.specs.Sets.{ByteFlags, member}
use Rattle.fancy_code.proofs.BranchingLemmas.{each_more}
use Rattle.fancy_splits.specs.declared.splits.ToldPart.{ToldPart}
use Rattle.fancy_prices.proofs.FlagLemmas.{neither}
use Rattle.fancy_splits.specs.Splits.{AreNoted}

-- One more number, past those of the others.
module _ (numbers filled : List (Option ℕ)) (at count : ℕ) (long : length filled ≡ at)
    (kept : (k : ℕ) → k < at → k < length numbers → slice_index_or filled k None ≡ slice_index_or numbers k None)
    (none : (k : ℕ) → length numbers ≤ k → k < at → slice_index_or filled k None ≡ None) where
  abbrev numbered : List (Option ℕ)
  numbered = filled ++ Some count ∷ []

  -- an instruction has the number that it had, or is the new one
  number_at : (q number : ℕ) → slice_index_or numbered q None ≡ Some number → (slice_index_or numbers q None ≡ Some number) ⊎ ((q ≡ at) × (number ≡ count))
  number_at q number e =
      elim (cases_lt q at) [
        | inl under ↦
            let here : slice_index_or filled q None ≡ Some number = sym (get_or_append_left filled (Some count ∷ []) None q (omega (arith, long, under))) ∙ e in
            elim (cases_lt q (length numbers)) [
              | inl had ↦ inl (sym (kept q under had) ∙ here)
              | inr past ↦ absurd (none_some number (sym (none q past under) ∙ here))
            ]
        | inr after ↦ inr (last (q - at) (omega (arith, after)) (sym (get_or-append_right filled (Some count ∷ []) at q None long after) ∙ e))
      ]
    where
      none_some : (k : ℕ) → None ≡ Some k → ⊥
      none_some k g = cc

      last : (k : ℕ) → q ≡ at + k → slice_index_or (Some count ∷ []) k None ≡ Some number → (q ≡ at) × (number ≡ count)
      last zero same g = (omega (arith, same), cc)
      last (suc k) same g = absurd (none_some number g)

  module _ (parts : List ToldPart) (l : ToldPart) (is : length parts ≡ count) (within : (q number : ℕ) → slice_index_or numbers q None ≡ Some number → number < length parts) where
    pub within_more : (q number : ℕ) → slice_index_or numbered q None ≡ Some number → number < length (parts ++ l ∷ [])
    within_more q number e =
        elim (number_at q number e) [
          | inl old ↦ omega (arith, within q number old, length-append parts (l ∷ []))
          | inr new ↦ omega (arith, new.1, is, length-append parts (l ∷ []))
        ]

    pub noted_more : (stands : ℕ → ToldPart → Type 0) → AreNoted stands numbers parts → stands at l → AreNoted stands numbered (parts ++ l ∷ [])
    noted_more stands noted here q number other e g =
        each_more (λ (k : ℕ) (o : ToldPart). slice_index_or numbered q None ≡ Some k → stands q o) parts l
        (λ k o inside e.
        elim (number_at q k e) [
          | inl old ↦ noted q k o old inside
          | inr new ↦ absurd (omega (arith, new.1, is, slice_get_within parts k o inside))
        ])
        (λ e.
        elim (number_at q (length parts) e) [
          | inl old ↦ absurd (omega (arith, within q (length parts) old))
          | inr new ↦ subst (λ (k : ℕ). stands k l) (sym new.0) here
        ])
        number other g e

-- One more byte of a set.
module _ (old new : ByteFlags) (byte : ℕ) (adds : (b : ℕ) → b < 256 → member new b ≡ (member old b || (b == byte))) where
  -- what is so without a byte that the set does not have
  pub misses_more : (P : ℕ → Type 0) → byte < 256 → ((b : ℕ) → b < byte → member old b ≡ false → P b) → (b : ℕ) → b < byte + 1 → member new b ≡ false → P b
  misses_more P small misses b lt lacks =
      let both = neither (member old b) (b == byte) (member new b) (adds b (omega (arith, lt, small))) lacks in
      elim (cases_eq b byte) [
        | inl same ↦ absurd (true≢false (sym (eq-eqb b byte same) ∙ both.1))
        | inr other ↦ misses b (omega (arith, lt, other)) both.0
      ]
