-- The positions at which an attempt must be made, by what the code costs at the others.
use Rattle.std.proofs.Common.{◌==◌, eqb-true, ◌≡◌, ℕ, zero, suc, ◌+◌, ◌-◌, ◌<◌, ◌≤◌, true, false, List, length, Option, Some, None, IfSome, refl, sym, ap, subst, ◌∙◌, arith, true≢false, slice_get, slice_index, slice_set, replicate, ◌⊎◌, inl, inr, get_or-set_same, get_or-set_other}
use Rattle.std.specs.Prelude.{slice_index_or}
use Rattle.std.proofs.lemmas.Bool.{cases_eq, cases_lt}
use Rattle.std.proofs.lemmas.Option.{IfSome_then, slice_get-get_or}
use Rattle.fancy_input.specs.Lines.{byte_before}
use Rattle.fancy_input.specs.Places.{is_continuation}
use Rattle.fancy_bytes.specs.Sets.{member}
use Rattle.fancy_prefilter.specs.Seeks.{IsNextSeen, NoneSeenBefore}
use Rattle.fancy_code.specs.declared.code.Code.{Code}
use Rattle.fancy_code.specs.Code.{instrs_of}
use Rattle.fancy_code.specs.Compile.{IsCodeOf, depth}
use Rattle.fancy_meaning.specs.Search.{Query, context_of, initial}
use Rattle.fancy_prices.specs.declared.facts.Before.{Before}
use Rattle.fancy_prices.specs.declared.rows.Row.{Row}
use Rattle.fancy_prices.specs.declared.rows.Rows.{Rows}
use Rattle.fancy_prices.specs.declared.entries.Told.{Told}
use Rattle.fancy_prices.specs.declared.price.Price.{Price}
use Rattle.fancy_prices.specs.Rows.{TellsAfter, TellsRow, costs_nothing}
use Rattle.fancy_prices.specs.Prices.{CostsAt, IsNothing}
use Rattle.fancy_prices.specs.Entries.{AreEntries, ArePassed, EntryTest, IsToldOf, TakeInAll, IsNextCostly, IsNextEntry, IsPassed, TellRows, is_told}
use Rattle.fancy_prices.specs.Around.{TellsBehind, TellsRowBehind, costly_in, is_costly, price_after, price_behind, price_in, row_of}
use Rattle.fancy_prices.proofs.DyingWays.{dies_told}
use Rattle.fancy_prices.proofs.FlagLemmas.{both, on}
use Rattle.fancy_prices.proofs.BeginLemmas.{get_index}
use Rattle.fancy_prices.proofs.PriceLemmas.{costs_counted, price_costs}

-- one more item that is as it should be
pub one_more : {A : Type 0} (d : A) (P : ℕ → A → Type 0) (items : List A) (i : ℕ) (v : A) → i < length items → P i v → ((b : ℕ) → b < i → P b (slice_index_or items b d))
    → (b : ℕ) → b < i + 1 → P b (slice_index_or (slice_set items i v) b d)
one_more d P items i v within is below b lt =
    elim (cases_eq b i) [
      | inl same ↦ subst (λ (k : ℕ). P k (slice_index_or (slice_set items i v) k d)) (sym same) (subst (P i) (sym (get_or-set_same items i v d within)) is)
      | inr other ↦ subst (P b) (sym (get_or-set_other items i b v d other)) (below b (omega (arith, lt, other)))
    ]

-- a byte stands at each place inside
pub stands_there : (h : List ℕ) (p : ℕ) → p < length h → slice_get h p ≡ Some (slice_index h p)
stands_there h p lt = slice_get-get_or h p 0 lt

-- what stands before a place is a byte, if it is something
small_at : (h : List ℕ) (p : ℕ) → ((k : ℕ) → slice_index h k < 256) → (o : Option ℕ) → slice_get h p ≡ o → IfSome o (λ b. b < 256)
small_at h p small None e = tt
small_at h p small (Some b) e = subst (λ (c : ℕ). c < 256) (get_index h p b e) (small p)

pub small_before : (h : List ℕ) (p : ℕ) → ((k : ℕ) → slice_index h k < 256) → IfSome (byte_before h p) (λ b. b < 256)
small_before h zero small = tt
small_before h (suc p) small = small_at h p small (slice_get h p) refl

-- what is looked at, and costs nothing
module _ (t : Told) (h : List ℕ) where
  pub passed_after : (to k : ℕ) → k < to → is_costly t.rows (byte_before h k) (slice_index h k) ≡ false → IsPassed (is_told (Some t)) h to k
  passed_after to k lt none = (record { marks = 0; returns = 0 }, (lt, inr (inr (none, (refl, refl)))), (refl, refl))

  -- the range may end later
  pub passed_within : (to end k : ℕ) → to ≤ end → IsPassed (is_told (Some t)) h to k → IsPassed (is_told (Some t)) h end k
  passed_within to end k le passed = (passed.0, (omega (arith, passed.1.0, le), passed.1.1), passed.2)

  pub passed_up_to : (from place to : ℕ) → place ≤ to → to ≤ place → ArePassed t h from place → ArePassed t h from to
  passed_up_to from place to ordered all earlier k low high = passed_within place to k ordered (earlier k low (omega (arith, high, all)))

  -- one place more
  pub passed_one : (from place : ℕ) → ArePassed t h from place → is_costly t.rows (byte_before h place) (slice_index h place) ≡ false → ArePassed t h from (place + 1)
  passed_one from place earlier none k low high =
      elim (cases_eq k place) [
        | inl same ↦ subst (IsPassed (is_told (Some t)) h (place + 1)) (sym same) (passed_after (place + 1) place (omega arith) none)
        | inr other ↦ passed_within place (place + 1) k (omega arith) (earlier k low (omega (arith, high, other)))
      ]

  module _ (small : (k : ℕ) → slice_index h k < 256) where
    passed_out : (to k : ℕ) → k < to → member t.bytes (slice_index h k) ≡ false → IsPassed (is_told (Some t)) h to k
    passed_out to k lt out = passed_after to k lt (t.told (slice_index h k) (small k) out (byte_before h k) (small_before h k small))

    -- what a scan passes over
    pub passed_unseen : (from place to : ℕ) → place ≤ to → ArePassed t h from place → NoneSeenBefore t.bytes h place to → ArePassed t h from to
    passed_unseen from place to ordered earlier none k low high =
        elim (cases_lt k place) [
          | inl before ↦ passed_within place to k ordered (earlier k low before)
          | inr later ↦ passed_out to k high (none k later high)
        ]

    pub passed_seen : (from place to seen : ℕ) → ArePassed t h from place → IsNextSeen t.bytes h place to seen → is_costly t.rows (byte_before h seen) (slice_index h seen) ≡ false
        → ArePassed t h from (seen + 1)
    passed_seen from place to seen earlier next none = passed_one from seen (passed_unseen from place seen next.passed earlier next.none) none

  -- what is looked at past other places
  pub next_past : (from near to p : ℕ) → from ≤ near → ArePassed t h from near → IsNextCostly t h near to p → IsNextCostly t h from to p
  next_past from near to p ordered earlier next =
      record {
        passed = omega (arith, ordered, next.passed);
        within = next.within;
        none = λ k low high. elim (cases_lt k near) [
          | inl before ↦ passed_within near p k next.passed (earlier k low before)
          | inr later ↦ next.none k later high
        ];
      }

  pub next_entry : (e : Option Told) → e ≡ Some t → (range_end from last to p : ℕ) → to ≤ range_end → to ≤ last + 1 → IsNextCostly t h from to p → IsNextEntry (is_told e) h range_end from last p
  next_entry e is range_end from last to p inside ends next =
      record {
        passed = next.passed;
        within = omega (arith, next.within, ends);
        none = λ k low high. subst (λ (o : Option Told). IsPassed (is_told o) h range_end k) (sym is)
            (passed_within p range_end k (omega (arith, next.within, inside)) (next.none k low high));
      }

  -- what stands before the next place is the byte here
  pub row_next : (place : ℕ) → place < length h → row_of t.rows (Some (slice_index h place)) ≡ row_of t.rows (byte_before h (place + 1))
  row_next place lt =
      let next : place + 1 ≡ suc place = omega arith in
      sym (ap (λ (p : ℕ). row_of t.rows (byte_before h p)) next ∙ ap (row_of t.rows) (stands_there h place lt))

-- a price that is told, and is nothing
pub free_price : (o : Option Price) → costs_nothing o ≡ true → (c : Price) × (o ≡ Some c) × IsNothing c
free_price None e = absurd (true≢false (sym e))
free_price (Some c) e =
    let parts = both (c.marks == 0) _ e in
    (c, refl, (eqb-true c.marks 0 parts.0, eqb-true c.returns 0 parts.1))

-- one more place of which a price is told
pub one_more_told : (entry : EntryTest) (h : List ℕ) (from n p r : ℕ) (c : Price) → p ≡ from + n → IsToldOf entry h p c → TakeInAll entry h from n r → TakeInAll entry h from (suc n) (r + c.returns)
one_more_told entry h from n p r c e told all = (c, subst (λ (k : ℕ). IsToldOf entry h k c) e told, r, refl, all)

pub one_told : (entry : EntryTest) (h : List ℕ) (from n : ℕ) (c : Price) → n ≡ 1 → IsToldOf entry h from c → TakeInAll entry h from n c.returns
one_told entry h from n c e told =
    subst (λ (k : ℕ). TakeInAll entry h from k c.returns) (sym e) (c, subst (λ (k : ℕ). IsToldOf entry h k c) from_here told, 0, omega arith, refl) where
      from_here : from ≡ from + 0
      from_here = omega arith

-- what is told without what stands before
pub told_after : (code : Code) (row : List (Option Price)) → TellsRow code None row → (k : Before) → TellsRow code (Some k) row
told_after code row tells k b lt =
    IfSome_then (slice_index_or row b None) (tells b lt)
    (λ c dies. (dies_told (instrs_of code) code.meaning b (Some k) c.marks c.returns code.start dies.0, dies.1))

module _ (rows : Rows) (code : Code) (tells : TellRows code rows) (behind : Option (List (Option Price))) (tells_behind : IfSome behind (TellsRowBehind code)) where
  module _ (q : Query) (is : IsCodeOf q.sought.pattern code) (meant : q.sought.meaning ≡ code.meaning) (inside : q.request.range_end ≤ length q.haystack)
      (small : (k : ℕ) → slice_index q.haystack k < 256) (p : ℕ) (lt : p < q.request.range_end) where
    abbrev here : ℕ
    here = slice_index q.haystack p

    abbrev before : Option ℕ
    before = byte_before q.haystack p

    by_price : (c : Price) → price_after rows before here ≡ Some c → CostsAt q p c
    by_price c e =
        let tell : TellsAfter code before here (Some c) = subst (TellsAfter code before here) e (tells before (small_before q.haystack p small) here (small p)) in
        price_costs q p c
        (costs_counted q code is meant inside p c.marks c.returns (omega (arith, lt))
        (tell.0 (context_of q) q.request.range_end (depth (length q.haystack) q.sought.pattern + 1) (initial q p) (replicate code.groups 0) meant
        (stands_there q.haystack p (omega (arith, lt, inside))) refl))
        tell.1

    by_behind : (row : Option (List (Option Price))) → IfSome row (TellsRowBehind code) → (second : Option ℕ) → byte_before q.haystack (p - 1) ≡ second → is_continuation here ≡ false
        → (c : Price) → price_behind row second ≡ Some c → CostsAt q p c
    by_behind None told second stands whole c e = cc
    by_behind (Some row) told None stands whole c e = cc
    by_behind (Some row) told (Some b) stands whole c e =
        let tell : TellsBehind code b (Some c) = subst (TellsBehind code b) e (told b (subst (λ (o : Option ℕ). IfSome o (λ d. d < 256)) stands (small_before q.haystack (p - 1) small))) in
        price_costs q p c
        (costs_counted q code is meant inside p c.marks c.returns (omega (arith, lt))
        (tell (context_of q) q.request.range_end (depth (length q.haystack) q.sought.pattern + 1) (initial q p) (replicate code.groups 0) stands))
        (λ inner. absurd (true≢false (sym inner ∙ whole)))

    free_in : (o : Option Row) → costly_in o here ≡ false → (c : Price) × (price_in o here ≡ Some c) × IsNothing c
    free_in None e = absurd (true≢false e)
    free_in (Some row) e = free_price (slice_index_or row.prices here None) (on _ (sym (row.free here (small p)) ∙ e))

    by_row : is_costly rows before here ≡ false → (c : Price) → IsNothing c → CostsAt q p c
    by_row passed c is_nothing =
        let free = free_in (row_of rows before) passed in
        let costs = by_price free.0 free.1 in
        record { none = costs.none; marks = omega (arith, costs.marks, free.2.0); returns = costs.returns ∙ free.2.1 ∙ sym is_nothing.1 }

  pub entries_of : AreEntries (λ second before here c. (price_after rows before here ≡ Some c)
      ⊎ (((is_continuation here ≡ false) × (price_behind behind second ≡ Some c)) ⊎ ((is_costly rows before here ≡ false) × IsNothing c))) code
  entries_of q is meant inside small p lt c told =
      elim told [
        | inl priced ↦ by_price q is meant inside small p lt c priced
        | inr other ↦ elim other [
          | inl by ↦ by_behind q is meant inside small p lt behind tells_behind (byte_before q.haystack (p - 1)) refl by.0 c by.1
          | inr passed ↦ by_row q is meant inside small p lt passed.0 c passed.1
        ]
      ]
