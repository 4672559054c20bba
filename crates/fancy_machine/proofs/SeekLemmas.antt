-- What a search passes over: it is of no matter.
use Rattle.std.proofs.Common.{◌≡◌, ℕ, ◌+◌, ◌-◌, ◌<◌, ◌≤◌, Bool, true, false, not, ◌||◌, List, length, refl, sym, ap, ◌∙◌, subst, arith, slice_index, true≢false}
use Rattle.std.proofs.Math.Logic.{∥∥₁_elim}
use Rattle.std.proofs.Props.{props}
use Rattle.fancy_input.specs.declared.input.Request.{Request}
use Rattle.fancy_input.specs.Requests.{effective_start}
use Rattle.fancy_code.specs.declared.code.Code.{Code}
use Rattle.fancy_meaning.specs.declared.options.SearchOptions.{SearchOptions}
use Rattle.fancy_code.specs.Compile.{IsCodeOf}
use Rattle.fancy_meaning.specs.Context.{Context}
use Rattle.fancy_meaning.specs.Events.{marks_in, returns_in}
use Rattle.fancy_code.specs.Queries.{query_of}
use Rattle.fancy_meaning.specs.Search.{Query, answer_from, gone_from}
use Rattle.fancy_prefilter.specs.Seen.{IsNextCandidate}
use Rattle.fancy_meaning.specs.Tried.{may_begin, tried, NoneTried}
use Rattle.fancy_meaning.proofs.SkipLemmas.{skip_none}
use Rattle.fancy_code.proofs.TriedLemmas.{passed_over}
use Rattle.fancy_prices.specs.declared.price.Price.{Price}
use Rattle.fancy_prices.specs.Entries.{AreEntries, EntryTest, IsNextEntry, IsToldAt, IsToldOf}
use Rattle.fancy_prices.specs.Prices.{CostsAt, CostsNothingAt}
use Rattle.fancy_machine.specs.declared.attempt.Attempt.{Attempt}
use Rattle.fancy_machine.specs.Asked.{Serves}
use Rattle.fancy_prices.proofs.SumOfPrices.{goes_past, untried_costs_nothing, priced_costs_nothing}

-- The search goes on from the one place as it does from the other, which is tried, if it is one of the search.
pub record GoesOn (q : Query) (seek : Bool) (from last place : ℕ) : Type 0 where
  pub tries : place ≤ last → tried seek q place ≡ true
  pub answer : answer_from q (last + 1 - from) from ≡ answer_from q (last + 1 - place) place
  pub returns : returns_in (gone_from q (tried seek q) (last + 1 - from) from) ≡ returns_in (gone_from q (tried seek q) (last + 1 - place) place)
  pub marks : marks_in (gone_from q (tried seek q) (last + 1 - from) from) ≡ marks_in (gone_from q (tried seek q) (last + 1 - place) place)

-- it does where the positions between them cost nothing
module _ (q : Query) (seek : Bool) (from last place : ℕ) (passed : from ≤ place) (within : place ≤ last + 1) where
  goes_on_past : (place ≤ last → tried seek q place ≡ true) → ((k : ℕ) → from ≤ k → k < place → CostsNothingAt q (tried seek q) k) → GoesOn q seek from last place
  goes_on_past tries free =
      let count : last + 1 - from ≡ place - from + (last + 1 - place) = omega (arith, passed, within) in
      let to : place ≡ from + (place - from) = omega (arith, passed) in
      let counts = goes_past q (tried seek q) (place - from) (last + 1 - from) (last + 1 - place) from place count to free in
      record {
        tries = tries;
        answer = skip_none q (place - from) (last + 1 - from) (last + 1 - place) from place count to (λ k low high. (free k low high).none);
        returns = counts.1;
        marks = counts.0;
      }

-- what the search passes over, by its arguments
module _ (q : Query) (code : Code) (options : SearchOptions) (haystack : List ℕ) (request : Request) (continues : Bool) (is : q ≡ query_of q.sought.pattern code options haystack request continues)
    (some : ∥ IsCodeOf q.sought.pattern code ∥₁) (bytes : (k : ℕ) → slice_index haystack k < 256) (inside : request.range_end ≤ length haystack)
    (entry : EntryTest) (are : AreEntries entry code) where
  price_of : IsCodeOf q.sought.pattern code → (k : ℕ) (c : Price) → IsToldAt entry haystack request.range_end k c → CostsAt q k c
  price_of of k c told =
      are q of (ap (λ (r : Query). r.sought.meaning) is) (omega (arith, inside, ends, ap length here)) (λ p. subst (λ (h : List ℕ). slice_index h p < 256) here (bytes p))
      k (omega (arith, told.0, ends)) c (subst (λ (h : List ℕ). IsToldOf entry h k c) here told.1)
    where
      here : haystack ≡ q.haystack
      here = sym (ap (λ (r : Query). r.haystack) is)

      ends : request.range_end ≡ q.request.range_end
      ends = sym (ap (λ (r : Query). r.request.range_end) is)

  -- what an attempt costs, where that is told
  pub costs_asked : (k : ℕ) (c : Price) → IsToldAt entry haystack request.range_end k c → CostsAt q k c
  costs_asked k c told = record {
    none = ∥∥₁_elim some (hlevel props) (λ of. (price_of of k c told).none);
    marks = ∥∥₁_elim some (hlevel props) (λ of. (price_of of k c told).marks);
    returns = ∥∥₁_elim some (hlevel props) (λ of. (price_of of k c told).returns);
  }

  module _ (from last place : ℕ) (ordered : from ≤ last + 1)
      (sought : options.seek ≡ true → IsNextCandidate code.prefilter.starts haystack request.range_end from last place)
      (each : options.seek ≡ false → IsNextEntry entry haystack request.range_end from last place) where
    on : IsCodeOf q.sought.pattern code → GoesOn q options.seek from last place
    on of = by options.seek refl where
      by : (b : Bool) → options.seek ≡ b → GoesOn q options.seek from last place
      by true e =
          let over = passed_over q code options haystack request continues is bytes from last place ordered sought (λ off. absurd (true≢false (sym e ∙ off))) of in
          goes_on_past q options.seek from last place over.passed over.within over.starts
          (λ k low high. untried_costs_nothing q (tried options.seek q) k (over.untried k low high) (over.none k low high))
      by false e =
          let next = each e in
          goes_on_past q options.seek from last place next.passed next.within (λ le. ap (λ (b : Bool). not b || may_begin q place) e)
          (λ k low high. let passed = next.none k low high in priced_costs_nothing q (tried options.seek q) k passed.0 (price_of of k passed.0 passed.1) passed.2)

    pub goes_on : GoesOn q options.seek from last place
    goes_on = record {
      tries = λ le. ∥∥₁_elim some (hlevel props) (λ of. (on of).tries le);
      answer = ∥∥₁_elim some (hlevel props) (λ of. (on of).answer);
      returns = ∥∥₁_elim some (hlevel props) (λ of. (on of).returns);
      marks = ∥∥₁_elim some (hlevel props) (λ of. (on of).marks);
    }

-- what an attempt costs, where that is told
pub told_costs : (q : Query) (a : Attempt) → Serves a q → ∥ IsCodeOf q.sought.pattern a.code.now ∥₁ → q.request.range_end ≤ length q.haystack → ((k : ℕ) → slice_index a.haystack.now k < 256)
    → (entry : EntryTest) → AreEntries entry a.code.now → (range_end : ℕ) → range_end ≡ q.request.range_end → (p : ℕ) (c : Price) → IsToldAt entry a.haystack.now range_end p c → CostsAt q p c
told_costs q a serves some inside bytes entry are range_end range p c told =
    record {
      none = ∥∥₁_elim some (hlevel props) (λ of. (costs of).none);
      marks = ∥∥₁_elim some (hlevel props) (λ of. (costs of).marks);
      returns = ∥∥₁_elim some (hlevel props) (λ of. (costs of).returns);
    }
  where
    here : a.haystack.now ≡ q.haystack
    here = ap (λ (x : Context). x.haystack) serves.context

    costs : IsCodeOf q.sought.pattern a.code.now → CostsAt q p c
    costs of =
        are q of (sym (ap (λ (x : Context). x.meaning) serves.context)) inside (λ k. subst (λ (h : List ℕ). slice_index h k < 256) here (bytes k))
        p (omega (arith, told.0, range)) c (subst (λ (h : List ℕ). IsToldOf entry h p c) here told.1)

-- a position that is tried is one of them
pub tried_somewhere : (q : Query) (seek : Bool) (request : Request) (p : ℕ) → q.request ≡ request → NoneTried seek q → effective_start request ≤ p → p ≤ request.range_end → tried seek q p ≡ true → ⊥
tried_somewhere q seek request p is none from to tries =
    true≢false (sym tries ∙ none p (subst (λ (r : Request). effective_start r ≤ p) (sym is) from) (subst (λ (r : Request). p ≤ r.range_end) (sym is) to))
