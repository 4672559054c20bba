-- Positions that a search passes over, since it is told of each what an attempt costs there.
use Rattle.std.proofs.Common.{◌≡◌, ℕ, zero, suc, ◌+◌, ◌-◌, ◌<◌, ◌≤◌, Bool, true, false, not, ◌||◌, List, refl, ap, sym, ◌∙◌, subst, arith, slice_index}
use Rattle.fancy_meaning.specs.Search.{Query}
use Rattle.fancy_meaning.specs.Tried.{may_begin, tried}
use Rattle.fancy_meaning.proofs.AttemptLemmas.{found_later}
use Rattle.fancy_prices.specs.declared.entries.Priced.{Priced}
use Rattle.fancy_prices.specs.declared.price.Price.{Price}
use Rattle.fancy_prices.specs.Entries.{AreEntries, EntryTest, IsToldAt, TakeInAll}
use Rattle.fancy_prices.specs.Prices.{CostsAt}
use Rattle.fancy_prices.proofs.EntryLemmas.{one_told}
use Rattle.fancy_machine.specs.declared.attempt.Attempt.{Attempt}
use Rattle.fancy_machine.specs.Asked.{IsAsked}
use Rattle.fancy_machine.specs.Front.{ArePriced, GoesPast}
use Rattle.fancy_machine.proofs.MachineSearch.{gone_counts, missed_here}
use Rattle.fancy_machine.proofs.SeekLemmas.{told_costs}

module _ (q : Query) (seek : Bool) (last : ℕ) where
  none_past : (p : ℕ) → p ≤ last + 1 → GoesPast q seek last p p 0
  none_past p le = record { passed = omega arith; within = le; answer = refl; count = omega arith; marks = omega arith }

  one_past : (p r : ℕ) (c : Price) → r ≡ c.returns → p ≤ last → tried seek q p ≡ true → CostsAt q p c → GoesPast q seek last p (p + 1) r
  one_past p r c e le tries costs =
      let one : last + 1 - p ≡ suc (last + 1 - (p + 1)) = omega (arith, le) in
      let missed = missed_here q p costs.none in
      let counts = gone_counts q (tried seek q) (last + 1 - p) (last + 1 - (p + 1)) p one tries missed in
      record {
        passed = omega arith;
        within = omega (arith, le);
        answer = found_later q (last + 1 - p) (last + 1 - (p + 1)) p one missed;
        count = omega (arith, e, counts.0, costs.returns);
        marks = omega (arith, counts.1);
      }

  both_past : (a b c r s t : ℕ) → t ≡ r + s → GoesPast q seek last a b r → GoesPast q seek last b c s → GoesPast q seek last a c t
  both_past a b c r s t e first then = record {
    passed = omega (arith, first.passed, then.passed);
    within = then.within;
    answer = first.answer ∙ then.answer;
    count = omega (arith, e, first.count, then.count);
    marks = omega (arith, first.marks, then.marks);
  }

  module _ (entry : EntryTest) (h : List ℕ) (end : ℕ) (costs : (p : ℕ) (c : Price) → IsToldAt entry h end p c → CostsAt q p c) (from : ℕ) where
    all_past : (n r : ℕ) → from + n ≤ last + 1 → from + n ≤ end → ((k : ℕ) → k < n → tried seek q (from + k) ≡ true) → TakeInAll entry h from n r → GoesPast q seek last from (from + n) r
    all_past zero r le inside tries all =
        let e : from ≡ from + 0 = omega arith in
        subst (λ (k : ℕ). GoesPast q seek last from k r) e (subst (GoesPast q seek last from from) (sym all) (none_past from (omega (arith, le))))
    all_past (suc n) r le inside tries all =
        let more = all_past n all.2 (omega (arith, le)) (omega (arith, inside)) (λ k lt. tries k (omega (arith, lt))) all.4 in
        let e : from + n + 1 ≡ from + suc n = omega arith in
        subst (λ (k : ℕ). GoesPast q seek last from k r) e
        (both_past from (from + n) (from + n + 1) all.2 all.0.returns r all.3 more
        (one_past (from + n) all.0.returns all.0 refl (omega (arith, le)) (tries n (omega arith)) (costs (from + n) all.0 (omega (arith, inside), all.1))))

    -- so the search goes on behind them
    pub priced_past : (seek ≡ true → tried true q from ≡ true) → (p : Priced) → ArePriced entry h end seek last from p → GoesPast q seek last from p.past p.returns
    priced_past first p are = by seek refl where
      past : from + (p.past - from) ≡ p.past
      past = omega (arith, are.passed)

      to : ((k : ℕ) → k < p.past - from → tried seek q (from + k) ≡ true) → GoesPast q seek last from p.past p.returns
      to tries = subst (λ (k : ℕ). GoesPast q seek last from k p.returns) past (all_past (p.past - from) p.returns (omega (arith, are.within, past)) (omega (arith, are.inside, past)) tries are.returns)

      by : (b : Bool) → seek ≡ b → GoesPast q seek last from p.past p.returns
      by true e = to (λ k lt. let here : from + k ≡ from = omega (arith, lt, are.one e) in
          subst (λ (s : Bool). tried s q (from + k) ≡ true) (sym e) (subst (λ (i : ℕ). tried true q i ≡ true) (sym here) (first e)))
      by false e = to (λ k lt. ap (λ (b : Bool). not b || may_begin q (from + k)) e)

-- the search of a query, of what is told of its attempts
pub passes_priced : (q : Query) (a : Attempt) (range_end from : ℕ) → IsAsked q a range_end from → ((k : ℕ) → slice_index a.haystack.now k < 256) → (entry : EntryTest) → AreEntries entry a.code.now
    → (h : List ℕ) → h ≡ a.haystack.now → (seek : Bool) → (seek ≡ true → tried true q from ≡ true) → (last : ℕ) (p : Priced) → ArePriced entry h range_end seek last from p
    → GoesPast q seek last from p.past p.returns
passes_priced q a range_end from asked bytes entry entries h same seek first last p are =
    priced_past q seek last entry a.haystack.now range_end (told_costs q a asked.serves asked.coded asked.inside bytes entry entries range_end asked.range) from first p
    (subst (λ (l : List ℕ). ArePriced entry l range_end seek last from p) same are)

-- one position at which an attempt costs nothing
pub passes_one : (q : Query) (a : Attempt) (range_end from : ℕ) → IsAsked q a range_end from → ((k : ℕ) → slice_index a.haystack.now k < 256) → (entry : EntryTest) → AreEntries entry a.code.now
    → (seek : Bool) → (seek ≡ true → tried true q from ≡ true) → (last : ℕ) → from ≤ last → (c : Price) → c.returns ≡ 0 → IsToldAt entry a.haystack.now range_end from c
    → (n : ℕ) → n ≡ 0 → GoesPast q seek last from (from + 1) n
passes_one q a range_end from asked bytes entry entries seek first last le c none told n is =
    subst (GoesPast q seek last from (from + 1)) (none ∙ sym is)
    (passes_priced q a range_end from asked bytes entry entries a.haystack.now refl seek first last (record { past = from + 1; returns = c.returns })
    (record {
      passed = omega arith;
      within = omega (arith, le);
      inside = omega (arith, told.0);
      one = λ e. refl;
      returns = one_told entry a.haystack.now from (from + 1 - from) c (omega arith) told.1;
    }))
