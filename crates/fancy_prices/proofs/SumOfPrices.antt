-- A search that passes over places that cost nothing.
use Rattle.std.proofs.Common.{◌≡◌, ℕ, zero, suc, ◌+◌, ◌<◌, ◌≤◌, Bool, true, false, ◌&&◌, List, [], ◌++◌, Option, None, if◌then◌else◌, refl, sym, ap, ap₂, ◌∙◌, subst, arith, le_refl}
use Rattle.std.specs.Prelude.{is_some}
use Rattle.fancy_meaning.specs.Context.{State}
use Rattle.fancy_meaning.specs.Events.{Event, marks_in, returns_in}
use Rattle.fancy_meaning.specs.Search.{Query, answer_at, gone_from, gone_through, is_match_boundary}
use Rattle.fancy_prices.specs.declared.price.Price.{Price}
use Rattle.fancy_prices.specs.Prices.{counted, CostsAt, CostsNothingAt, IsNothing}
use Rattle.fancy_prices.proofs.PriceLemmas.{marks-append, returns-append}

module _ (q : Query) (tries : ℕ → Bool) where
  module _ (t j p : ℕ) (e : t ≡ suc j) where
    one_more : gone_from q tries t p ≡ counted q tries p ++ (if is_some (answer_at q p) then [] else gone_from q tries j (p + 1))
    unfolding gone_from
    one_more = subst (λ (k : ℕ). gone_from q tries k p ≡ counted q tries p ++ (if is_some (answer_at q p) then [] else gone_from q tries j (p + 1))) (sym e) refl

    one_past : answer_at q p ≡ None → gone_from q tries t p ≡ counted q tries p ++ gone_from q tries j (p + 1)
    one_past none = one_more ∙ ap (λ (o : Option State). counted q tries p ++ (if is_some o then [] else gone_from q tries j (p + 1))) none

  -- A search goes on over places at which it finds and counts nothing as if they were not there.
  pub goes_past : (d n m p r : ℕ) → n ≡ d + m → r ≡ p + d → ((k : ℕ) → p ≤ k → k < r → CostsNothingAt q tries k)
      → (marks_in (gone_from q tries n p) ≡ marks_in (gone_from q tries m r)) × (returns_in (gone_from q tries n p) ≡ returns_in (gone_from q tries m r))
  goes_past zero n m p r count to free =
      let same : gone_from q tries n p ≡ gone_from q tries m r = ap₂ (gone_from q tries) (omega arith) (omega arith) in
      (ap marks_in same, ap returns_in same)
  goes_past (suc d) n m p r count to free =
      let here = free p (le_refl p) (omega arith) in
      let rest = goes_past d (d + m) m (p + 1) r refl (omega arith) (λ k a b. free k (omega arith) b) in
      let u = one_past n (d + m) p (omega arith) here.none in
      let after = gone_from q tries (d + m) (p + 1) in
      (omega (arith, ap marks_in u, marks-append (counted q tries p) after, here.marks, rest.0), omega (arith, ap returns_in u, returns-append (counted q tries p) after, here.returns, rest.1))

module _ (q : Query) (tries : ℕ → Bool) (p : ℕ) where
  -- a place that is not tried counts nothing
  pub untried_costs_nothing : tries p ≡ false → answer_at q p ≡ None → CostsNothingAt q tries p
  untried_costs_nothing untried none =
      let same : counted q tries p ≡ [] =
      ap (λ (t : Bool). if is_match_boundary q.sought.on_boundaries q.haystack p && t then gone_through q p else []) untried
      ∙ by (is_match_boundary q.sought.on_boundaries q.haystack p) in
      record { none = none; marks = ap marks_in same; returns = ap returns_in same } where
        by : (b : Bool) → (if b && false then gone_through q p else []) ≡ []
        by true = refl
        by false = refl

  -- nor does one whose attempt costs nothing
  pub priced_costs_nothing : (c : Price) → CostsAt q p c → IsNothing c → CostsNothingAt q tries p
  priced_costs_nothing c costs is =
      let may = is_match_boundary q.sought.on_boundaries q.haystack p in
      record { none = costs.none; marks = by marks_in refl may (tries p) (omega (arith, costs.marks, is.0)); returns = by returns_in refl may (tries p) (costs.returns ∙ is.1) } where
        by : (count : List Event → ℕ) → count [] ≡ 0 → (a b : Bool) → count (if a then gone_through q p else []) ≡ 0 → count (if a && b then gone_through q p else []) ≡ 0
        by count none true true e = e
        by count none true false e = none
        by count none false b e = none
