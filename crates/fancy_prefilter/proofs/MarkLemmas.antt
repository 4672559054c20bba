-- What marks tell of the places that they stand for.
use Rattle.std.proofs.Common.{◌≡◌, ◌≢◌, ℕ, suc, ◌+◌, ◌-◌, ◌*◌, ◌%◌, ◌^◌, ◌<◌, ◌≤◌, sym, ap, subst, ◌∙◌, arith, bit_and, inl, inr, w64, pow_pos, pow_mono}
use Rattle.std.specs.Int.{bit_at, bit_not}
use Rattle.std.proofs.lemmas.Nat.Bits.{bit_at-zero, bit_at_and, bit_at_above, and_pow}
use Rattle.std.proofs.lemmas.Nat.{and_le_l, and-not, and_comm}
use Rattle.std.proofs.Math.Nat.{two-pow-succ}
use Rattle.std.proofs.lemmas.Bool.{cases_eq, cases_lt}
use Rattle.fancy_prefilter.specs.HalfTables.{AreMarks}

-- a bit that is set stands for one of the 32 places
pub bit_within : (marks k : ℕ) → marks < 4294967296 → bit_at marks k ≡ 1 → k < 32
bit_within marks k few set =
    elim (cases_lt k 32) [
      | inl lt ↦ lt
      | inr ge ↦ absurd (omega (arith, set, bit_at_above marks 32 k few ge))
    ]

module _ (IsSo : ℕ → Type 0) (place marks : ℕ) (told : AreMarks IsSo place marks) where
  -- it is not so at a place whose bit is not set
  pub not_so : (k : ℕ) → place ≤ k → k < place + 32 → bit_at marks (k - place) ≡ 0 → ¬ IsSo k
  not_so k from before unset so =
      let there : place + (k - place) ≡ k = omega (arith, from) in
      let set = told.each (k - place) (omega (arith, from, before)) (subst IsSo (sym there) so) in
      omega (arith, set, unset)

  -- it is not so at the places before the one whose bit is the lowest
  pub none_before : (passed : ℕ) → passed < 32 → ((k : ℕ) → k < passed → bit_at marks k ≡ 0) → (k : ℕ) → place ≤ k → k < place + passed → ¬ IsSo k
  none_before passed inside first k from before = not_so k from (omega (arith, before, inside)) (first (k - place) (omega (arith, from, before)))

  -- where no bit is set it is so at no place
  pub never_so : marks ≡ 0 → (k : ℕ) → place ≤ k → k < place + 32 → ¬ IsSo k
  never_so none k from before = not_so k from before (ap (λ (m : ℕ). bit_at m (k - place)) none ∙ bit_at-zero (k - place))

  -- what is only so where this is so has the same marks
  pub marks_of : (IsToo : ℕ → Type 0) → ((k : ℕ) → k < 32 → IsToo (place + k) → IsSo (place + k)) → AreMarks IsToo place marks
  marks_of IsToo also = record { each = λ k lt too. told.each k lt (also k lt too); few = told.few }

  -- without the bit of a place at which it is not so
  pub marks_without : (bit fewer : ℕ) → ¬ IsSo (place + bit) → fewer < marks → ((k : ℕ) → k < 64 → k ≢ bit → bit_at fewer k ≡ bit_at marks k) → AreMarks IsSo place fewer
  marks_without bit fewer never less kept = record {
    each = λ k lt so.
        elim (cases_eq k bit) [
          | inl same ↦ absurd (never (subst (λ (j : ℕ). IsSo (place + j)) same so))
          | inr other ↦ kept k (omega (arith, lt)) other ∙ told.each k lt so
        ];
    few = omega (arith, less, told.few);
  }

-- the bits that both have
pub marks_of_both : (IsSo IsToo : ℕ → Type 0) (place a b : ℕ) → AreMarks IsSo place a → AreMarks IsToo place b → AreMarks (λ p. IsSo p × IsToo p) place (bit_and a b)
marks_of_both IsSo IsToo place a b so too = record {
  each = λ k lt both. omega (arith, bit_at_and a b k, so.each k lt both.0, too.each k lt both.1);
  few = omega (arith, and_le_l a b, so.few);
}

-- `m & !(1 << k)` is smaller than m, where bit k of m is set
pub cleared_less : (m k : ℕ) → k < 64 → m < 2 ^ 64 → bit_at m k ≡ 1 → bit_and m (bit_not w64 (1 * 2 ^ k % 2 ^ 64)) < m
cleared_less m k within fits set =
    let small : 2 ^ k < 2 ^ 64 = omega (arith, two-pow-succ k, pow_pos k, pow_mono {i = suc k} {j = 64} (omega (arith, within))) in
    let one : 1 * 2 ^ k % 2 ^ 64 ≡ 2 ^ k = omega (arith, small) in
    let parts = and-not 64 (2 ^ k) m small fits in
    let there : bit_and (2 ^ k) m ≡ 2 ^ k = and_comm (2 ^ k) m ∙ and_pow m k ∙ ap (λ (b : ℕ). b * 2 ^ k) set ∙ omega arith in
    subst (λ (n : ℕ). bit_and m (2 ^ 64 - 1 - n) < m) (sym one) (omega (arith, parts, there, and_comm m (2 ^ 64 - 1 - 2 ^ k), pow_pos k))
