-- Ways that die, and what they cost.
use Rattle.std.proofs.Common.{◌≡◌, ℕ, ◌+◌, ◌≤◌, ◌==◌, Bool, true, false, not, ◌||◌, nat_le, List, [], ◌∷◌, ◌++◌, length, None, if◌then◌else◌, refl, sym, ap, ◌∙◌, subst, arith, true≢false, filter, replicate, slice_index}
use Rattle.std.proofs.lemmas.List.{length-replicate}
use Rattle.fancy_input.specs.Places.{is_boundary, is_continuation}
use Rattle.fancy_code.specs.declared.code.Code.{Code}
use Rattle.fancy_code.specs.Code.{instrs_of}
use Rattle.fancy_code.specs.Compile.{IsCodeOf, depth}
use Rattle.fancy_meaning.specs.Context.{State}
use Rattle.fancy_meaning.specs.Events.{Event, any, mark, return, outcome, marks_in, returns_in, outcomes_in}
use Rattle.fancy_code.specs.Run.{Raw, Note, Stop, choice_opened, returned, fetched, erase, run}
use Rattle.fancy_meaning.specs.Search.{Query, accepted, answer_at, before_accepted, context_of, first_one, gone_at, gone_through, initial, is_match_boundary, longest_one, trace_at}
use Rattle.fancy_meaning.specs.Trace.{outcomes}
use Rattle.fancy_code.proofs.WholeCode.{program_gives}
use Rattle.fancy_prices.specs.declared.price.Price.{Price}
use Rattle.fancy_prices.specs.Prices.{MissesIn, Costs, CostsAt, IsNothing, IsPriceAt}
use Rattle.fancy_prices.proofs.FlagLemmas.{neither, on}

-- without a stop there is no outcome
costs_in : (m r : ℕ) (w : List Raw) → MissesIn any m r w → (outcomes_in (erase w) ≡ []) × (marks_in (erase w) ≡ m) × (returns_in (erase w) ≡ r)
costs_in m r [] h = (refl, sym h.0, sym h.1)
costs_in m r (Note choice_opened ∷ w) h =
    let c = costs_in h.0 r w h.2 in (c.0, omega (arith, c.1, h.1), c.2)
costs_in m r (Note returned ∷ w) h =
    let c = costs_in m h.0 w h.2 in (c.0, c.1, omega (arith, c.2, h.1))
costs_in m r (Note fetched ∷ w) h = costs_in m r w h
costs_in m r (Stop q s v ∷ w) h = absurd (true≢false h.0)

-- events without an outcome
none_before : (ok : State → Bool) (es : List Event) → outcomes_in es ≡ [] → before_accepted ok es ≡ es
none_before ok [] h = refl
none_before ok (mark ∷ es) h = ap (λ (fs : List Event). mark ∷ fs) (none_before ok es h)
none_before ok (return ∷ es) h = ap (λ (fs : List Event). return ∷ fs) (none_before ok es h)
none_before ok (outcome s ∷ es) h = absurd (some_none s (outcomes_in es) h) where
  some_none : (s : State) (ss : List State) → (s ∷ ss) ≡ [] → ⊥
  some_none s ss e = true≢false (ap is_cons e) where
    is_cons : List State → Bool
    is_cons [] = false
    is_cons (t ∷ ts) = true

module _ (q : Query) (p : ℕ) (none : outcomes_in (trace_at q p) ≡ []) where
  no_answer : answer_at q p ≡ None
  unfolding answer_at outcomes
  no_answer = by q.sought.longest where
    by : (b : Bool) → (if b then longest_one (filter (accepted q p) (outcomes_in (trace_at q p))) else first_one (filter (accepted q p) (outcomes_in (trace_at q p)))) ≡ None
    by true = ap (λ (ss : List State). longest_one (filter (accepted q p) ss)) none
    by false = ap (λ (ss : List State). first_one (filter (accepted q p) ss)) none

  all_gone : gone_through q p ≡ trace_at q p
  unfolding gone_through
  all_gone = by q.sought.longest where
    by : (b : Bool) → (if b then trace_at q p else before_accepted (accepted q p) (trace_at q p)) ≡ trace_at q p
    by true = refl
    by false = none_before (accepted q p) (trace_at q p) none

-- What the code costs where it dies is what the attempt goes through.
pub costs_counted : (q : Query) (code : Code) → IsCodeOf q.sought.pattern code → q.sought.meaning ≡ code.meaning → q.request.range_end ≤ length q.haystack
    → (p m r : ℕ) → p ≤ q.request.range_end
    → Costs m r (run (context_of q) q.request.range_end (instrs_of code) (depth (length q.haystack) q.sought.pattern + 1) code.start (initial q p) (replicate code.groups 0))
    → IsPriceAt q p m r
costs_counted q code is meant inside p m r le costs =
    let g = program_gives (context_of q) q.request.range_end q.sought.pattern code is meant inside (initial q p) (replicate code.groups 0) le (length-replicate code.groups 0) in
    let c = costs_in m r g.0 (subst (Costs m r) g.1 costs) in
    let none : outcomes_in (trace_at q p) ≡ [] = ap outcomes_in (sym g.2) ∙ c.0 in
    record {
      none = no_answer q p none;
      marks = ap marks_in (all_gone q p none ∙ sym g.2) ∙ c.1;
      returns = ap returns_in (all_gone q p none ∙ sym g.2) ∙ c.2;
    }

-- no match may begin within a character
within_character : (on_boundaries : Bool) (h : List ℕ) (p : ℕ) → is_match_boundary on_boundaries h p ≡ false → is_continuation (slice_index h p) ≡ true
within_character on_boundaries h p e =
    let no_boundary = neither (not on_boundaries) (is_boundary h p) _ refl e in
    let inside = neither (p == 0) (nat_le (length h) p || not (is_continuation (slice_index h p))) _ refl no_boundary.1 in
    on (is_continuation (slice_index h p)) (neither (nat_le (length h) p) (not (is_continuation (slice_index h p))) _ refl inside.1).1

-- an attempt costs what it goes through, and nothing where no match may begin
pub price_costs : (q : Query) (p : ℕ) (c : Price) → IsPriceAt q p c.marks c.returns → (is_continuation (slice_index q.haystack p) ≡ true → IsNothing c) → CostsAt q p c
price_costs q p c price inner = by (is_match_boundary q.sought.on_boundaries q.haystack p) refl where
  counts : (b : Bool) → is_match_boundary q.sought.on_boundaries q.haystack p ≡ b → gone_at q p ≡ (if b then gone_through q p else [])
  counts b e = ap (λ (a : Bool). if a then gone_through q p else []) e

  by : (b : Bool) → is_match_boundary q.sought.on_boundaries q.haystack p ≡ b → CostsAt q p c
  by true e = record { none = price.none; marks = omega (arith, ap marks_in (counts true e), price.marks); returns = ap returns_in (counts true e) ∙ price.returns }
  by false e =
      record {
        none = price.none;
        marks = omega (arith, ap marks_in (counts false e));
        returns = ap returns_in (counts false e) ∙ sym (inner (within_character q.sought.on_boundaries q.haystack p e)).1;
      }

pub returns-append : (a b : List Event) → returns_in (a ++ b) ≡ returns_in a + returns_in b
returns-append [] b = omega arith
returns-append (mark ∷ a) b = returns-append a b
returns-append (return ∷ a) b = omega (arith, returns-append a b)
returns-append (outcome s ∷ a) b = returns-append a b

pub marks-append : (a b : List Event) → marks_in (a ++ b) ≡ marks_in a + marks_in b
marks-append [] b = omega arith
marks-append (mark ∷ a) b = omega (arith, marks-append a b)
marks-append (return ∷ a) b = marks-append a b
marks-append (outcome s ∷ a) b = marks-append a b
