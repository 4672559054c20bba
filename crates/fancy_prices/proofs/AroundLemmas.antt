-- What the bytes round a position tell.
use Rattle.std.proofs.Common.{◌≡◌, ℕ, zero, suc, ◌+◌, ◌-◌, ◌<◌, ◌≤◌, Bool, true, false, Option, Some, None, IfSome, List, length, refl, sym, ap, subst, ◌∙◌, arith, slice_get, slice_index, inl, inr}
use Rattle.std.specs.Prelude.{vec_len}
use Rattle.fancy_input.specs.Lines.{byte_before}
use Rattle.fancy_bytes.specs.Sets.{ByteFlags, member}
use Rattle.fancy_prefilter.specs.declared.prefilter.Anchor.{Anchor}
use Rattle.fancy_prefilter.specs.declared.prefilter.Opening.{Opening}
use Rattle.fancy_prefilter.specs.declared.prefilter.Opening.TheVariants.{Untold, Text, Window, Sets, Words}
use Rattle.fancy_prefilter.specs.declared.prefilter.Prefilter.{Prefilter}
use Rattle.fancy_prefilter.specs.Prefilters.{window_in}
use Rattle.fancy_prefilter.specs.NextOpening.{LacksReach, IsOffAnchor, LacksOpening, StartsNot, by_byte, by_anchor, by_opening, by_reach}
use Rattle.fancy_prefilter.specs.declared.reach.Reach.{Reach}
use Rattle.fancy_prefilter.specs.Seen.{MayNotStart}
use Rattle.fancy_bytes.specs.Rows.{set_at, StandsFrom}
use Rattle.fancy_prices.specs.declared.entries.Told.{Told}
use Rattle.fancy_prices.specs.declared.rows.Rows.{Rows}
use Rattle.fancy_prices.specs.Around.{CostsNothingAt, IsAround, sets_of, costly_in, is_costly, number_before, price_behind}
use Rattle.fancy_prices.specs.Entries.{ArePassed, IsPassed, is_told}
use Rattle.fancy_prices.proofs.EntryLemmas.{free_price, passed_after, small_before, stands_there}

-- a byte that is costly in no row
pub never_costly : (rows : Rows) (bytes : ByteFlags) → ((b : ℕ) → b < 256 → member bytes b ≡ false → (k : ℕ) → k < vec_len rows.rows → costly_in (slice_get rows.rows.items k) b ≡ false)
    → (b : ℕ) → b < 256 → member bytes b ≡ false → CostsNothingAt rows b
never_costly rows bytes none b small out before lt = none b small out (number_before rows.numbers before) (within before lt) where
  within : (o : Option ℕ) → IfSome o (λ c. c < 256) → number_before rows.numbers o < vec_len rows.rows
  within None lt = rows.some
  within (Some c) lt = rows.numbered c lt

module _ (t : Told) (h : List ℕ) (small : (k : ℕ) → slice_index h k < 256) (filter : Prefilter) (round : IsAround t.rows t.behind t.bytes filter) (to : ℕ) (inside : to ≤ length h) where
  abbrev sets : List ByteFlags
  sets = sets_of (window_in filter.opening)

  at : (j q r : ℕ) → q ≡ r → member (set_at sets j) (slice_index h q) ≡ true → member (set_at sets j) (slice_index h r) ≡ true
  at j q r e = subst (λ (k : ℕ). member (set_at sets j) (slice_index h k) ≡ true) e

  stands : (p : ℕ) → suc (suc p) < to → member (set_at sets 0) (slice_index h p) ≡ true → member (set_at sets 1) (slice_index h (suc p)) ≡ true
      → member (set_at sets 2) (slice_index h (suc (suc p))) ≡ true → StandsFrom sets h to 0 p
  stands p lt second before here zero low few = (omega (arith, lt), at 0 p (p + 0) (omega arith) second)
  stands p lt second before here (suc zero) low few = (omega (arith, lt), at 1 (suc p) (p + 1) (omega arith) before)
  stands p lt second before here (suc (suc zero)) low few = (omega (arith, lt), at 2 (suc (suc p)) (p + 2) (omega arith) here)
  stands p lt second before here (suc (suc (suc j))) low few = absurd (omega (arith, few, round.1.0))

  -- where no match starts by the filter, one of the three is not in its set
  lacks_opening : (p : ℕ) (o : Opening) → length (sets_of (window_in o)) ≡ 3 → LacksOpening o h to p → ¬ StandsFrom (sets_of (window_in o)) h to 0 p
  lacks_opening p Untold three not = absurd (omega (arith, three))
  lacks_opening p (Text text) three not = absurd (omega (arith, three))
  lacks_opening p (Window row) three not = not
  lacks_opening p (Sets row) three not = not
  lacks_opening p (Words branches) three not = absurd (omega (arith, three))

  lacks : (p : ℕ) → StartsNot filter h to p → ¬ StandsFrom sets h to 0 p
  lacks p (by_byte not) = absurd (subst (λ (o : Option ByteFlags). MayNotStart o h to p) round.0.0 not)
  lacks p (by_anchor not) = absurd (subst (λ (a : Anchor). IsOffAnchor a h p) round.0.1 not)
  lacks p (by_reach not) = absurd (subst (λ (o : Option Reach). LacksReach o h to p) round.0.2 not)
  lacks p (by_opening not) = lacks_opening p filter.opening round.1.0 not

  module _ (end p : ℕ) (lt : suc (suc p) < to) (within : suc (suc p) < end) (none : ¬ StandsFrom sets h to 0 p) where
    abbrev here : ℕ
    here = slice_index h (suc (suc p))

    abbrev before : ℕ
    before = slice_index h (suc p)

    abbrev second : ℕ
    second = slice_index h p

    unseen : member t.bytes here ≡ false → IsPassed (is_told (Some t)) h end (suc (suc p))
    unseen out = passed_after t h end (suc (suc p)) within (t.told here (small (suc (suc p))) out (byte_before h (suc (suc p))) (small_before h (suc (suc p)) small))

    after : is_costly t.rows (Some before) here ≡ false → IsPassed (is_told (Some t)) h end (suc (suc p))
    after free =
        passed_after t h end (suc (suc p)) within
        (ap (λ (o : Option ℕ). is_costly t.rows o here) (stands_there h (suc p) (omega (arith, lt, inside))) ∙ free)

    behind : (m : Bool) → member t.bytes here ≡ m → member (set_at sets 0) second ≡ false → IsPassed (is_told (Some t)) h end (suc (suc p))
    behind false out not = unseen out
    behind true seen not =
        let told = round.1.1 second (small p) not in
        let price = free_price (price_behind t.behind (Some second)) told.0 in
        let one : suc p ≡ suc (suc p) - 1 = omega arith in
        let stood = ap (λ (k : ℕ). price_behind t.behind (byte_before h k)) (sym one) ∙ (ap (price_behind t.behind) (stands_there h p (omega (arith, lt, inside))) ∙ price.1) in
        (price.0, (within, inr (inl (told.1 here (small (suc (suc p))) seen, stood))), price.2)

    by : (c b a : Bool) → member (set_at sets 2) here ≡ c → member (set_at sets 1) before ≡ b → member (set_at sets 0) second ≡ a → IsPassed (is_told (Some t)) h end (suc (suc p))
    by false b a here_not before_is second_is = unseen (round.1.3 here (small (suc (suc p))) here_not)
    by true false a here_is before_not second_is = after (round.1.2 before (small (suc p)) before_not here (small (suc (suc p))))
    by true true false here_is before_is second_not = behind (member t.bytes here) refl second_not
    by true true true here_is before_is second_is = absurd (none (stands p lt second_is before_is here_is))

    passed_round : IsPassed (is_told (Some t)) h end (suc (suc p))
    passed_round = by (member (set_at sets 2) here) (member (set_at sets 1) before) (member (set_at sets 0) second) refl refl refl

  -- so an attempt costs nothing where the bytes round it are passed over
  pub passed_around : (from end : ℕ) → 2 ≤ from → end ≤ to → ((k : ℕ) → from - 2 ≤ k → k + 2 < end → StartsNot filter h to k) → ArePassed t h from end
  passed_around from end low le none k ge lt =
      let back : suc (suc (k - 2)) ≡ k = omega (arith, low, ge) in
      subst (IsPassed (is_told (Some t)) h end) back
      (passed_round end (k - 2) (omega (arith, back, lt, le)) (omega (arith, back, lt)) (lacks (k - 2) (none (k - 2) (omega (arith, ge)) (omega (arith, back, lt)))))
