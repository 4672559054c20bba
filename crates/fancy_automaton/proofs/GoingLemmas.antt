-- How far a search has come, place by place.
use Rattle.std.proofs.Common.{◌≡◌, ℕ, zero, suc, ◌+◌, ◌-◌, ◌<◌, ◌≤◌, ◌⊎◌, inl, inr, Bool, true, false, List, [], Option, Some, None, refl, sym, ap, ◌∙◌, subst, arith, length, map, true≢false}
use Rattle.std.specs.Prelude.{nat_le, if◌then◌else◌, option_map, is_some}
use Rattle.std.specs.Option.{option_or}
use Rattle.std.proofs.lemmas.Bool.Decides.{nat_tests}
use Rattle.fancy_input.specs.declared.span.Span.{Span}
use Rattle.fancy_code.specs.declared.attempt.Attempt.{Attempt}
use Rattle.fancy_code.specs.Attempt.{context_in, instrs_in, may_end_in}
use Rattle.fancy_meaning.specs.Context.{Unit_at, unit_in}
use Rattle.fancy_states.specs.declared.way.Way.{Way}
use Rattle.fancy_alphabet.specs.Sights.{IsSeen}
use Rattle.fancy_states.specs.Ways.{match_end}
use Rattle.fancy_alphabet.specs.Effects.{Seen}
use Rattle.fancy_states.specs.Futures.{ArePlain, end_at, start_end}
use Rattle.fancy_alphabet.specs.Units.{cut, place_after}
use Rattle.fancy_states.specs.Steps.{IsStep, span_by, at_of, start_in}
use Rattle.fancy_states.specs.Search.{BegunIn, Passes, UnderIn, leftmost_in, ends_in, found_or, begun_if, Steady, Going}
use Rattle.fancy_alphabet.proofs.SightLemmas.{unit_is}
use Rattle.fancy_states.proofs.SearchLemmas.{under_passed, under_moved, under_none, under_begun_if, under_step, left_over, no_items, same_length}

found_none : (found : Option Span) → found_or found None ≡ option_map ends_in found
found_none None = refl
found_none (Some s) = refl

module _ (a : Attempt) where
  abbrev Goes : List ℕ → List ℕ → Option Span → ℕ → ℕ → Type 0
  Goes ways starts found place resume = Going a ways starts found place resume

  pub going_first : (ways starts : List ℕ) (found : Option Span) → ways ≡ [] → starts ≡ [] → found ≡ None → Goes ways starts found a.base a.base
  going_first ways starts found w s f =
      subst (λ (ws : List ℕ). Goes ws starts found a.base a.base) (sym w)
      (subst (λ (ss : List ℕ). Goes [] ss found a.base a.base) (sym s)
      (subst (λ (o : Option Span). Goes [] [] o a.base a.base) (sym f) (record {
        under = λ deep begun. record { same = refl; known = tt; answer = refl };
        even = refl;
        ahead = omega arith;
        inside = λ k low high. absurd (omega (arith, low, high));
        rests = inr refl;
      })))

  pub going_same : (ways ways' starts starts' : List ℕ) (found found' : Option Span) (place resume resume' : ℕ) → ways ≡ ways' → starts ≡ starts' → found ≡ found' → resume ≡ resume'
      → Goes ways starts found place resume → Goes ways' starts' found' place resume'
  going_same ways ways' starts starts' found found' place resume resume' w s f e g =
      subst (λ (ws : List ℕ). Goes ws starts' found' place resume') w
      (subst (λ (ss : List ℕ). Goes ways ss found' place resume') s
      (subst (λ (o : Option Span). Goes ways starts o place resume') f (subst (λ (p : ℕ). Goes ways starts found place p) e g)))

  -- nothing is found where no match may begin
  pub passed_none : (deep k : ℕ) → BegunIn a deep → k ≤ a.last → Passes a k → start_end (may_end_in a) (context_in a) a.last (instrs_in a) deep a.code.now.start k ≡ None
  passed_none deep k begun within (inl bad) =
      ap (λ (b : Bool). if b then (end_at (may_end_in a) (context_in a) a.last (instrs_in a) deep k a.code.now.start) else None) bad
  passed_none deep k begun within (inr never) = by (may_end_in a k) refl where
    by : (b : Bool) → may_end_in a k ≡ b → (if b then (end_at (may_end_in a) (context_in a) a.last (instrs_in a) deep k a.code.now.start) else None) ≡ None
    by true may = begun.starts k within may never
    by false may = refl

  -- a place where nothing begins
  going_past : (ways starts : List ℕ) (found : Option Span) (place resume : ℕ) → place ≤ a.last → place < resume
      → Goes ways starts found place resume → Goes ways starts found (place + 1) resume
  going_past ways starts found place resume within lt g = record {
    under = λ deep begun.
        under_passed (may_end_in a) (context_in a) a.last (instrs_in a) deep a.code.now.start _ found ways starts place resume (a.last + 1 - place) (a.last + 1 - (place + 1)) (omega arith)
        (passed_none deep place begun within (g.inside place (omega arith) lt)) (g.under deep begun);
    even = g.even;
    ahead = omega arith;
    inside = λ k low high. g.inside k (omega (arith, low)) high;
    rests = g.rests;
  }

  going_far : (ways starts : List ℕ) (found : Option Span) (d place resume : ℕ) → resume ≡ place + d → resume ≤ a.last + 1
      → Goes ways starts found place resume → Goes ways starts found resume resume
  going_far ways starts found zero place resume e within g = let same : place ≡ resume = omega (arith, e) in subst (λ (p : ℕ). Goes ways starts found p resume) same g
  going_far ways starts found (suc d) place resume e within g =
      going_far ways starts found d (place + 1) resume (omega (arith, e)) within (going_past ways starts found place resume (omega (arith, e, within)) (omega (arith, e)) g)

  -- on to the place where the ways wait
  pub going_on : (ways starts : List ℕ) (found : Option Span) (place resume : ℕ) → resume ≤ a.last + 1
      → Goes ways starts found place resume → Goes ways starts found resume resume
  going_on ways starts found place resume within g =
      let ahead : place ≤ resume = g.ahead in
      going_far ways starts found (resume - place) place resume (omega (arith, ahead)) within g

  -- where no way waits, the places may be passed over where no match may begin
  pub going_idle : (ways starts : List ℕ) (found : Option Span) (place resume : ℕ) → place ≤ resume → resume ≤ a.last + 1 → starts ≡ []
      → ((k : ℕ) → place ≤ k → k < resume → Passes a k) → Goes ways starts found place place → Goes ways starts found resume resume
  going_idle ways starts found place resume ahead within none passes g =
      going_on ways starts found place resume within (record {
        under = λ deep begun.
            under_moved (may_end_in a) (context_in a) a.last (instrs_in a) deep a.code.now.start _ ways starts place resume _ (no_items ways (sym g.even ∙ ap length none)) (g.under deep begun);
        even = g.even;
        ahead = ahead;
        inside = passes;
        rests = inr none;
      })

  -- where what is read leads
  abbrev pub Reaches : ℕ → Option Unit_at → Type 0
  Reaches place u =
      (place + 1 ≤ place_after place u) × ((k : ℕ) → place + 1 ≤ k → k < place_after place u → may_end_in a k ≡ false)
      × (((may_end_in a (place_after place u) ≡ true) × (place_after place u ≤ a.last)) ⊎ (u ≡ None))

  reaches_none : (place : ℕ) → Reaches place None
  reaches_none place = (omega arith, λ k low high. absurd (omega (arith, low, high)), inr refl)

  reaches_if : Steady a → (place : ℕ) → place ≤ a.last → may_end_in a place ≡ true → (v : Unit_at) → unit_in a.code.now.meaning a.haystack.now place ≡ Some v
      → (b : Bool) → nat_le (place + v.width) a.last ≡ b → Reaches place (if b then Some v else None)
  reaches_if steady place within fine v e true le =
      let s = steady place v within fine e in
      (omega (arith, s.0), λ k low high. s.2 k (omega (arith, low)) high, inl (s.1, grind (arith, nat_tests)))
  reaches_if steady place within fine v e false le = reaches_none place

  reaches_cut : Steady a → (place : ℕ) → place ≤ a.last → may_end_in a place ≡ true → (o : Option Unit_at) → unit_in a.code.now.meaning a.haystack.now place ≡ o
      → Reaches place (cut a.last place o)
  reaches_cut steady place within fine None e = reaches_none place
  reaches_cut steady place within fine (Some v) e = reaches_if steady place within fine v e (nat_le (place + v.width) a.last) refl

  -- where what is seen at a place leads
  pub seen_reaches : Steady a → (place : ℕ) → place ≤ a.last → may_end_in a place ≡ true → (s : Seen) → IsSeen (context_in a) a.last place s → Reaches place s.unit
  seen_reaches steady place within fine s seen =
      let is : s.unit ≡ cut a.last place (unit_in a.code.now.meaning a.haystack.now place) = seen.unit ∙ ap (cut a.last place) (unit_is a place) in
      subst (Reaches place) (sym is) (reaches_cut steady place within fine (unit_in a.code.now.meaning a.haystack.now place) refl)

  -- one place of the search
  pub going_step : Steady a → ArePlain (instrs_in a)
      → (ways starts : List ℕ) (found after : Option Span) (place : ℕ) (s : Seen) (next : List Way) (matched : Option ℕ)
      → place ≤ a.last → may_end_in a place ≡ true → IsSeen (context_in a) a.last place s
      → IsStep (instrs_in a) (begun_if found ways a.code.now.start) s next matched → (s.unit ≡ None → next ≡ [])
      → ((rest : Option (ℕ × ℕ)) → found_or after rest ≡ option_or (span_by (begun_if found starts place) (match_end matched place)) (found_or found rest))
      → Goes ways starts found place place
      → Goes (map at_of next) (map (start_in (begun_if found starts place)) next) after (place + 1) (place_after place s.unit)
  going_step steady plain ways starts found after place s next matched within fine seen step halts told g =
      let r = seen_reaches steady place within fine s seen in
      record {
        under = λ deep begun.
            (let now = under_begun_if (may_end_in a) (context_in a) a.last (instrs_in a) deep a.code.now.start _ found ways starts place (a.last + 1 - place) (a.last + 1 - (place + 1)) (omega arith) fine within begun.known (g.under deep begun) in
            let rest = leftmost_in a deep (a.last + 1 - (place + 1)) (place + 1) in
            let after_it = under_step (may_end_in a) (context_in a) a.last (instrs_in a) deep a.code.now.start _ plain (begun_if found ways a.code.now.start) (begun_if found starts place) place s next matched (found_or found rest) fine
            seen step now in
            subst (λ (o : Option (ℕ × ℕ)). UnderIn a deep (map at_of next) (map (start_in (begun_if found starts place)) next) (place_after place s.unit) o) (sym (told rest)) after_it);
        even = same_length next (begun_if found starts place);
        ahead = r.0;
        inside = λ k low high. inl (r.1 k low high);
        rests = elim r.2 [
          | inl well ↦ inl well
          | inr none ↦ inr (ap (map (start_in (begun_if found starts place))) (halts none))
        ];
      }

  -- after the last place
  pub going_end : (ways starts : List ℕ) (found : Option Span) (place deep : ℕ) → a.last < place → place ≤ a.last + 1 → BegunIn a deep
      → Goes ways starts found place place → option_map ends_in found ≡ leftmost_in a deep (a.last + 1 - a.base) a.base
  going_end ways starts found place deep over within begun g =
      let none : starts ≡ [] = elim g.rests [
        | inl here ↦ absurd (let most : place ≤ a.last = here.1 in omega (arith, most, over))
        | inr none ↦ none
      ] in
      sym (found_none found)
      ∙ ap (found_or found) (sym (left_over (may_end_in a) (context_in a) a.last (instrs_in a) deep a.code.now.start (a.last + 1 - place) place (omega (arith, over))))
      ∙ under_none (may_end_in a) (context_in a) a.last (instrs_in a) deep a.code.now.start _ ways starts place _ (no_items ways (sym g.even ∙ ap length none)) (g.under deep begun)

  -- something was found, and no way waits
  pub going_over : (ways starts : List ℕ) (found : Option Span) (place resume deep : ℕ) → ways ≡ [] → is_some found ≡ true → BegunIn a deep
      → Goes ways starts found place resume → option_map ends_in found ≡ leftmost_in a deep (a.last + 1 - a.base) a.base
  going_over ways starts None place resume deep none some begun g = absurd (true≢false (sym some))
  going_over ways starts (Some s) place resume deep none some begun g =
      under_none (may_end_in a) (context_in a) a.last (instrs_in a) deep a.code.now.start _ ways starts resume _ none (g.under deep begun)
