-- Windows that are moved over a haystack.
use Rattle.std.proofs.Common.{◌≡◌, ℕ, ◌+◌, ◌-◌, ◌<◌, ◌≤◌, false, inl, inr, List, length, slice_index, sym, ap, ◌∙◌, arith, true≢false}
use Rattle.std.specs.Prelude.{Option, None, Some, MatchOption}
use Rattle.std.proofs.lemmas.Bool.{cases_eq, cases_lt}
use Rattle.fancy_bytes.specs.Sets.{ByteFlags, member}
use Rattle.fancy_bytes.specs.Rows.{set_at, StandsFrom}
use Rattle.fancy_prefilter.specs.Windows.{NoneStandsIn, IsSkip}

module _ (sets : List ByteFlags) (haystack : List ℕ) (end : ℕ) where
  -- a window that would pass the end is none
  pub none_past : (k : ℕ) → 0 < length sets → end < k + length sets → ¬ StandsFrom sets haystack end 0 k
  none_past k some past stands =
      let last = stands (length sets - 1) (omega arith) (omega (arith, some)) in
      omega (arith, last.0, past, some)

  -- a window is moved on by a skip, past windows that have the byte where their set does not have it
  pub none_skipped : (place at skip : ℕ) → at < length sets → length sets ≤ at + skip → IsSkip sets (slice_index haystack (place + at)) skip
      → NoneStandsIn sets haystack end place (place + (at + skip + 1 - length sets))
  none_skipped place at skip inside most is k from before stands =
      let j : ℕ = place + at - k in
      let there : k + j ≡ place + at = omega (arith, from, before, is.within, most) in
      let within : j < length sets = omega (arith, from, inside) in
      let late : length sets ≤ j + skip = omega (arith, from, before, most) in
      true≢false
      (sym (stands j (omega arith) within).1
      ∙ ap (λ (i : ℕ). member (set_at sets j) (slice_index haystack i)) there
      ∙ is.lacks j within late)

  -- windows that were passed over, and more of them
  pub none_further : (from place next : ℕ) → NoneStandsIn sets haystack end from place → NoneStandsIn sets haystack end place next → NoneStandsIn sets haystack end from next
  none_further from place next before after k low high =
      elim (cases_lt k place) [
        | inl lt ↦ before k low lt
        | inr ge ↦ after k ge high
      ]

  -- the window at a place alone
  pub none_at : (place : ℕ) → ¬ StandsFrom sets haystack (place + length sets) 0 place → NoneStandsIn sets haystack end place (place + 1)
  none_at place never k low high stands =
      let same : k ≡ place = omega (arith, low, high) in
      never (λ j from inside. (omega (arith, inside), rw same at ((stands j from inside).1)))

  -- a window that stands before its own end stands before a later one
  pub stands_before : (place : ℕ) → place + length sets ≤ end → StandsFrom sets haystack (place + length sets) 0 place → StandsFrom sets haystack end 0 place
  stands_before place within stands j from inside = (omega (arith, inside, within), (stands j from inside).1)

  -- a window that stands before the end stands before another end that it does not pass
  pub stands_within : (place other : ℕ) → place + length sets ≤ other → StandsFrom sets haystack end 0 place → StandsFrom sets haystack other 0 place
  stands_within place other within stands j from inside = (omega (arith, inside, within), (stands j from inside).1)

  -- once a window would pass the end, none stands from there on
  pub none_left : (from place : ℕ) → 0 < length sets → end < place + length sets → NoneStandsIn sets haystack end from place → (k : ℕ) → from ≤ k → ¬ StandsFrom sets haystack end 0 k
  none_left from place some past before k low =
      elim (cases_lt k place) [
        | inl lt ↦ before k low lt
        | inr ge ↦ none_past k some (omega (arith, past, ge))
      ]

-- skips

pub skip_none : (sets : List ByteFlags) (byte passed : ℕ) (set : ByteFlags) → passed < length sets → set ≡ set_at sets (length sets - 1 - passed) → member set byte ≡ false
    → ((j : ℕ) → j < length sets → length sets ≤ j + passed → member (set_at sets j) byte ≡ false)
    → (j : ℕ) → j < length sets → length sets ≤ j + (passed + 1) → member (set_at sets j) byte ≡ false
skip_none sets byte passed set within is lacks before j inside late =
    elim (cases_eq j (length sets - 1 - passed)) [
      | inl same ↦ ap (λ (i : ℕ). member (set_at sets i) byte) same ∙ ap (λ (s : ByteFlags). member s byte) (sym is) ∙ lacks
      | inr other ↦ before j inside (omega (arith, other, late, inside, within))
    ]

-- From 32 windows, which an earlier end is enough for, to the end. It is known that none stands before one of them.
module _ (sets : List ByteFlags) (haystack : List ℕ) (end place first : ℕ) (some : 0 < length sets) (left : place + (length sets + 31) ≤ end) (low : place ≤ first)
    (before_first : NoneStandsIn sets haystack end place first) where
  none_among : (earlier : ℕ) → earlier ≡ place + (length sets + 31) → ((k : ℕ) → first ≤ k → ¬ StandsFrom sets haystack earlier 0 k)
      → NoneStandsIn sets haystack end place (place + 32)
  none_among earlier is none =
      none_further sets haystack end place first (place + 32) before_first
      (λ k from before stands. none k from (stands_within sets haystack end k earlier (omega (arith, is, before)) stands))

  seen_among : (earlier p : ℕ) → earlier ≡ place + (length sets + 31)
      → (first ≤ p) × (p < earlier) × StandsFrom sets haystack earlier 0 p × NoneStandsIn sets haystack earlier first p
      → (place ≤ p) × (p < end) × StandsFrom sets haystack end 0 p × NoneStandsIn sets haystack end place p
  seen_among earlier p is seen =
      let last = seen.2 (length sets - 1) (omega arith) (omega (arith, some)) in (
        omega (arith, seen.0, low),
        omega (arith, seen.1, is, left),
        stands_within sets haystack earlier p end (omega (arith, last.0, is, left, some)) seen.2,
        none_further sets haystack end place first p before_first
            (λ k from before stands. seen.3 k from before (stands_within sets haystack end k earlier (omega (arith, last.0, before, some)) stands)),
      )

  -- what is seen by an earlier end
  pub among : (earlier : ℕ) (seen : Option ℕ) → earlier ≡ place + (length sets + 31)
      → MatchOption seen ((k : ℕ) → first ≤ k → ¬ StandsFrom sets haystack earlier 0 k)
      (λ p. (first ≤ p) × (p < earlier) × StandsFrom sets haystack earlier 0 p × NoneStandsIn sets haystack earlier first p)
      → MatchOption seen (NoneStandsIn sets haystack end place (place + 32))
      (λ p. (place ≤ p) × (p < end) × StandsFrom sets haystack end 0 p × NoneStandsIn sets haystack end place p)
  among earlier None is none = none_among earlier is none
  among earlier (Some p) is seen = seen_among earlier p is seen
