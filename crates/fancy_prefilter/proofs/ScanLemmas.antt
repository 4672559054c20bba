-- What the search for a byte tells of the set that has it alone.
use Rattle.std.proofs.Common.{◌≡◌, ℕ, ◌+◌, ◌-◌, ◌<◌, ◌≤◌, ◌==◌, Bool, true, false, List, length, drop, slice_index, slice_range, Option, Some, inl, inr, refl, sym, ap, subst, ◌∙◌, arith}
use Rattle.std.specs.Prelude.{IfSome}
use Rattle.std.proofs.lemmas.List.{get_or-take, get_or-drop, length-take-le, length-drop}
use Rattle.std.proofs.lemmas.Bool.{cases_lt}
use Rattle.memchr.specs.Find.{Nowhere, Passes, is_byte}
use Rattle.fancy_bytes.specs.Sets.{ByteFlags, IsSetOf, member}
use Rattle.fancy_prefilter.specs.Seeks.{NoneSeenBefore, IsNextSeen}

not_true : (b : Bool) → (b ≡ true → ⊥) → b ≡ false
not_true true never = absurd (never refl)
not_true false never = refl

-- the set of a scan that has one byte
pub only_of : (only : Option ℕ) (byte : ℕ) (set now : ByteFlags) → only ≡ Some byte → set ≡ now → IfSome only (λ o. IsSetOf (λ b. b == o) set) → IsSetOf (λ b. b == byte) now
only_of only byte set now is same told = subst (IsSetOf (λ b. b == byte)) same (rw is at told)

pub length_part : (hay : List ℕ) (from to : ℕ) → to ≤ length hay → length (slice_range hay from to) ≡ to - from
length_part hay from to within = length-take-le (to - from) (drop from hay) (omega (arith, length-drop from hay))

module _ (set : ByteFlags) (byte : ℕ) (hay : List ℕ) (from to : ℕ) (only : IsSetOf (λ b. b == byte) set) (bytes : (k : ℕ) → slice_index hay k < 256) where
  -- the byte at a place of the range
  part_at : (k : ℕ) → k < to - from → slice_index (slice_range hay from to) k ≡ slice_index hay (from + k)
  part_at k lt = get_or-take (to - from) (drop from hay) k 0 lt ∙ get_or-drop from hay k 0

  seen_at : (k : ℕ) → k < to - from → Passes (is_byte byte) (slice_range hay from to) k → member set (slice_index hay (from + k)) ≡ true
  seen_at k lt here = only (slice_index hay (from + k)) (bytes (from + k)) ∙ ap (λ (x : ℕ). x == byte) (sym (part_at k lt)) ∙ here

  unseen_at : (k : ℕ) → k < to - from → ¬ Passes (is_byte byte) (slice_range hay from to) k → member set (slice_index hay (from + k)) ≡ false
  unseen_at k lt never = only (slice_index hay (from + k)) (bytes (from + k)) ∙ ap (λ (x : ℕ). x == byte) (sym (part_at k lt)) ∙ not_true _ never

  pub none_seen : (n p : ℕ) → n ≤ to - from → p ≡ from + n → Nowhere (Passes (is_byte byte) (slice_range hay from to)) 0 n → NoneSeenBefore set hay from p
  none_seen n p le is none k after before =
      let there : from + (k - from) ≡ k = omega arith in
      let lt : k - from < n = omega arith in
      ap (λ (i : ℕ). member set (slice_index hay i)) (sym there) ∙ unseen_at (k - from) (omega arith) (none (k - from) (omega arith) lt)

  pub next_seen : (n : ℕ) → n < to - from → Nowhere (Passes (is_byte byte) (slice_range hay from to)) 0 n → Passes (is_byte byte) (slice_range hay from to) n →
      IsNextSeen set hay from to (from + n)
  next_seen n lt none here = record {
    passed = omega arith;
    within = omega arith;
    found = seen_at n lt here;
    none = none_seen n (from + n) (omega arith) refl none;
  }

-- places before which no byte of the set stands, and more of them
pub none_seen_further : (set : ByteFlags) (hay : List ℕ) (from place next : ℕ) → NoneSeenBefore set hay from place
    → ((k : ℕ) → place ≤ k → k < next → ¬ (member set (slice_index hay k) ≡ true)) → NoneSeenBefore set hay from next
none_seen_further set hay from place next before never k low high =
    elim (cases_lt k place) [
      | inl lt ↦ before k low lt
      | inr ge ↦ not_true (member set (slice_index hay k)) (never k ge high)
    ]

-- and one place more
pub none_seen_at : (set : ByteFlags) (hay : List ℕ) (from place : ℕ) → NoneSeenBefore set hay from place → member set (slice_index hay place) ≡ false → NoneSeenBefore set hay from (place + 1)
none_seen_at set hay from place before here k low high =
    elim (cases_lt k place) [
      | inl lt ↦ before k low lt
      | inr ge ↦
          let same : k ≡ place = omega (arith, ge, high) in
          ap (λ (i : ℕ). member set (slice_index hay i)) same ∙ here
    ]
