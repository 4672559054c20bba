-- A search by all ways at once, place by place.
use Rattle.std.proofs.Common.{◌≡◌, ℕ, suc, ◌+◌, ◌≤◌, Bool, true, List, [], ◌∷◌, ◌++◌, Option, Some, None, refl, sym, ap, ◌∙◌, subst, arith, length, map, length-append}
use Rattle.std.specs.Prelude.{if◌then◌else◌}
use Rattle.std.specs.Option.{option_or}
use Rattle.fancy_code.specs.Instructions.{Instruction}
use Rattle.fancy_meaning.specs.Context.{Context}
use Rattle.fancy_code.specs.Thread.{rank}
use Rattle.fancy_input.specs.declared.span.Span.{Span}
use Rattle.fancy_states.specs.declared.way.Way.{Way}
use Rattle.fancy_alphabet.specs.Sights.{IsSeen}
use Rattle.fancy_states.specs.Ways.{tagged, match_end, AllKnown}
use Rattle.fancy_alphabet.specs.Effects.{Seen}
use Rattle.fancy_states.specs.Futures.{ArePlain, end_at, known_at, leftmost, start_end}
use Rattle.fancy_alphabet.specs.Units.{place_after}
use Rattle.fancy_states.specs.Steps.{waiting, IsStep, span_by, first_tagged_end, at_of, start_in}
use Rattle.fancy_states.specs.Search.{Begun, Under, begun_if, found_or}
use Rattle.fancy_states.proofs.FutureLemmas.{solves}
use Rattle.fancy_states.proofs.StepLemmas.{span_begun, span_step, known_after, known_begun}

or_assoc : (a b c : Option (ℕ × ℕ)) → option_or (option_or a b) c ≡ option_or a (option_or b c)
or_assoc None b c = refl
or_assoc (Some x) b c = refl

-- as many ways began as go on
pub same_length : (next : List Way) (starts : List ℕ) → length (map (start_in starts) next) ≡ length (map at_of next)
same_length [] starts = refl
same_length (l ∷ ls) starts = ap suc (same_length ls starts)

module _ (good : ℕ → Bool) (x : Context) (limit : ℕ) (code : List Instruction) (deep start : ℕ) where
  abbrev Left : ℕ → ℕ → Option (ℕ × ℕ)
  Left n p = leftmost good x limit code deep start n p

  -- nothing begins where nothing is found
  left_none : (n m p : ℕ) → n ≡ suc m → start_end good x limit code deep start p ≡ None → Left n p ≡ Left m (p + 1)
  left_none n m p e none = ap (λ (k : ℕ). Left k p) e ∙ ap (λ (o : Option ℕ). option_or (tagged p o) (Left m (p + 1))) none

  left_good : (n m p : ℕ) → n ≡ suc m → good p ≡ true → Left n p ≡ option_or (tagged p (end_at good x limit code deep p start)) (Left m (p + 1))
  left_good n m p e fine =
      ap (λ (k : ℕ). Left k p) e ∙ ap (λ (b : Bool). option_or (tagged p (if b then (end_at good x limit code deep p start) else None)) (Left m (p + 1))) fine

  pub left_over : (n p : ℕ) → n ≡ 0 → Left n p ≡ None
  left_over n p e = ap (λ (k : ℕ). Left k p) e

  module _ (goal : Option (ℕ × ℕ)) where
    abbrev Holds : List ℕ → List ℕ → ℕ → Option (ℕ × ℕ) → Type 0
    Holds ways starts place rest = Under good x limit code deep start goal ways starts place rest

    pub under_rest : (ways starts : List ℕ) (place : ℕ) (rest other : Option (ℕ × ℕ)) → rest ≡ other → Holds ways starts place rest → Holds ways starts place other
    under_rest ways starts place rest other e u = subst (Holds ways starts place) e u

    pub under_same : (ways ways' starts starts' : List ℕ) (place place' : ℕ) (rest rest' : Option (ℕ × ℕ)) → ways ≡ ways' → starts ≡ starts' → place ≡ place' → rest ≡ rest'
        → Holds ways starts place rest → Holds ways' starts' place' rest'
    under_same ways ways' starts starts' place place' rest rest' a b e f u =
        subst (λ (w : List ℕ). Holds w starts' place' rest') a
        (subst (λ (s : List ℕ). Holds ways s place' rest') b (subst (λ (p : ℕ). Holds ways starts p rest') e (subst (λ (r : Option (ℕ × ℕ)). Holds ways starts place r) f u)))

    -- with no way left, only the rest is
    pub under_none : (ways starts : List ℕ) (place : ℕ) (rest : Option (ℕ × ℕ)) → ways ≡ [] → Holds ways starts place rest → rest ≡ goal
    under_none ways starts place rest e u = sym (ap (λ (ws : List ℕ). option_or (first_tagged_end (end_at good x limit code deep place) ws starts) rest) e) ∙ u.answer

    -- no way waits, at whatever place
    pub under_moved : (ways starts : List ℕ) (place other : ℕ) (rest : Option (ℕ × ℕ)) → ways ≡ [] → Holds ways starts place rest → Holds ways starts other rest
    under_moved ways starts place other rest e u = record {
      same = u.same;
      known = subst (λ (ws : List ℕ). AllKnown (known_at good x limit code deep other) (waiting 0 ws)) (sym e) tt;
      answer = ap (λ (ws : List ℕ). option_or (first_tagged_end (end_at good x limit code deep other) ws starts) rest) e ∙ under_none ways starts place rest e u;
    }

    -- a way begins
    pub under_begun : (ways starts : List ℕ) (place n m : ℕ) → n ≡ suc m → good place ≡ true → place ≤ limit → Begun good x limit code deep start
        → Holds ways starts place (Left n place) → Holds (ways ++ start ∷ []) (starts ++ place ∷ []) place (Left m (place + 1))
    under_begun ways starts place n m e fine inside begun u = record {
      same = omega (arith, u.same, length-append starts (place ∷ []), length-append ways (start ∷ []));
      known = known_begun (known_at good x limit code deep place) ways start u.known (begun place inside);
      answer = ap (λ (o : Option (ℕ × ℕ)). option_or o (Left m (place + 1))) (span_begun (end_at good x limit code deep place) ways starts start place u.same)
          ∙ or_assoc (first_tagged_end (end_at good x limit code deep place) ways starts) (tagged place (end_at good x limit code deep place start)) (Left m (place + 1))
          ∙ ap (option_or (first_tagged_end (end_at good x limit code deep place) ways starts)) (sym (left_good n m place e fine)) ∙ u.answer;
    }

    -- a way begins unless something was found
    pub under_begun_if : (found : Option Span) (ways starts : List ℕ) (place n m : ℕ) → n ≡ suc m → good place ≡ true → place ≤ limit → Begun good x limit code deep start
        → Holds ways starts place (found_or found (Left n place)) → Holds (begun_if found ways start) (begun_if found starts place) place (found_or found (Left m (place + 1)))
    under_begun_if None ways starts place n m e fine inside begun u = under_begun ways starts place n m e fine inside begun u
    under_begun_if (Some f) ways starts place n m e fine inside begun u = u

    pub under_passed : (found : Option Span) (ways starts : List ℕ) (place resume n m : ℕ) → n ≡ suc m → start_end good x limit code deep start place ≡ None
        → Holds ways starts resume (found_or found (Left n place)) → Holds ways starts resume (found_or found (Left m (place + 1)))
    under_passed found ways starts place resume n m e none u = under_rest ways starts resume _ _ (ap (found_or found) (left_none n m place e none)) u

    -- a step
    pub under_step : ArePlain code → (ways starts : List ℕ) (place : ℕ) (s : Seen) (next : List Way) (matched : Option ℕ) (rest : Option (ℕ × ℕ)) → good place ≡ true
        → IsSeen x limit place s → IsStep code ways s next matched → Holds ways starts place rest
        → Holds (map at_of next) (map (start_in starts) next) (place_after place s.unit) (option_or (span_by starts (match_end matched place)) rest)
    under_step plain ways starts place s next matched rest fine seen step h =
        let after = place_after place s.unit in
        let r = step place (end_at good x limit code deep place) (end_at good x limit code deep after) (known_at good x limit code deep place) (known_at good x limit code deep after)
        (λ q. rank x limit code deep q place) (solves good x limit code deep place fine plain s seen) h.known in
        let e = span_step (end_at good x limit code deep place) (end_at good x limit code deep after) ways starts next matched place h.same r.1 in
        record {
          same = same_length next starts;
          known = known_after (known_at good x limit code deep after) next r.0;
          answer = sym (or_assoc (first_tagged_end (end_at good x limit code deep after) (map at_of next) (map (start_in starts) next)) (span_by starts (match_end matched place)) rest)
              ∙ sym (ap (λ (o : Option (ℕ × ℕ)). option_or o rest) e) ∙ h.answer;
        }

pub no_items : (xs : List ℕ) → length xs ≡ 0 → xs ≡ []
no_items [] e = refl
no_items (x ∷ xs) e = absurd (omega arith)
