-- The next place at which a search goes on, where each is asked whether a match may begin and end there.
use Rattle.std.proofs.Common.{◌≡◌, ℕ, ◌+◌, ◌<◌, ◌≤◌, true, false, inl, inr, subst, arith}
use Rattle.std.proofs.lemmas.Bool.{cases_lt}
use Rattle.fancy_code.specs.declared.attempt.Attempt.{Attempt}
use Rattle.fancy_code.specs.Attempt.{may_end_in}
use Rattle.fancy_prefilter.specs.NextOpening.{IsNextOpening}
use Rattle.fancy_states.specs.Search.{Passes}
use Rattle.fancy_automaton.specs.Places.{IsNextPlace}

module _ (a : Attempt) (from place p : ℕ) (forth : from ≤ place) (passed : (k : ℕ) → from ≤ k → k < place → Passes a k)
    (next : IsNextOpening a.code.now.prefilter a.haystack.now a.last place a.last p) where
  -- none begins before it
  passed_to : (k : ℕ) → from ≤ k → k < p → Passes a k
  passed_to k low high = elim (cases_lt k place) [
    | inl lt ↦ passed k low lt
    | inr ge ↦ inr (next.none k ge high)
  ]

  -- where a match may begin and end there, or it is past the last place
  pub next_place : (p ≤ a.last → may_end_in a p ≡ true) → IsNextPlace a from p
  next_place good = record {
    forth = omega (arith, forth, next.passed);
    ends = next.within;
    passed = passed_to;
    good = good;
    some = λ le none. next.some le (λ k low high. none k (omega (arith, low, forth)) high);
  }

  -- and else none begins up to the place after it
  pub passed_on : may_end_in a p ≡ false → (k : ℕ) → from ≤ k → k < p + 1 → Passes a k
  passed_on bad k low high = elim (cases_lt k p) [
    | inl lt ↦ passed_to k low lt
    | inr ge ↦ inl (subst (λ (j : ℕ). may_end_in a j ≡ false) (omega (arith, ge, high)) bad)
  ]
