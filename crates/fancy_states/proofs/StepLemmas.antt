-- The ways that wait at a place, by their numbers.
use Rattle.std.proofs.Common.{◌≡◌, ℕ, suc, ◌-◌, ◌<◌, ◌≤◌, Bool, true, List, [], ◌∷◌, ◌++◌, Option, Some, None, refl, sym, ap, ap₂, ◌∙◌, subst, arith, length, drop, reverse, get_or, drop-cons, append_assoc, length-append}
use Rattle.std.proofs.lemmas.List.{reverse-append}
use Rattle.fancy_states.specs.declared.way.Way.{Way}
use Rattle.fancy_code.specs.Instructions.{Instruction}
use Rattle.fancy_alphabet.specs.declared.effect.Effect.{Effect}
use Rattle.fancy_alphabet.specs.Alike.{IsAlike}
use Rattle.std.specs.Option.{option_or}
use Rattle.std.specs.Prelude.{map, slice_index}
use Rattle.fancy_states.specs.Ways.{Ends, tagged, first_end, way_end, match_end, AllKnown, Obeys}
use Rattle.fancy_alphabet.specs.Effects.{Seen}
use Rattle.fancy_states.specs.Steps.{IsStep, waiting, span_by, first_tagged_end, at_of, start_in}

drop_length : (qs : List ℕ) → drop (length qs) qs ≡ []
drop_length [] = refl
drop_length (q ∷ qs) = drop_length qs

pub waiting_none : (items : List Way) (qs : List ℕ) → items ≡ [] → reverse items ≡ waiting (length qs) (drop (length qs) qs)
waiting_none items qs e = ap (λ (x : List Way). reverse x) e ∙ ap (waiting (length qs)) (sym (drop_length qs))

waiting_suc : (items : List Way) (qs : List ℕ) (j : ℕ) → j < length qs → reverse items ≡ waiting (suc j) (drop (suc j) qs)
    → reverse (items ++ (record { at = get_or qs j 0; from = j }) ∷ []) ≡ waiting j (drop j qs)
waiting_suc items qs j lt e =
    let l : Way = record { at = get_or qs j 0; from = j } in
    reverse-append items (l ∷ []) ∙ ap (λ (x : List Way). l ∷ x) e ∙ ap (waiting j) (sym (drop-cons qs j 0 lt))

pub waiting_more : (items : List Way) (qs : List ℕ) (i : ℕ) → 0 < i → i ≤ length qs → reverse items ≡ waiting i (drop i qs)
    → reverse (items ++ (record { at = get_or qs (i - 1) 0; from = i - 1 }) ∷ []) ≡ waiting (i - 1) (drop (i - 1) qs)
waiting_more items qs i pos le e =
    let same : i ≡ suc (i - 1) = omega arith in
    waiting_suc items qs (i - 1) (omega arith) (subst (λ (k : ℕ). reverse items ≡ waiting k (drop k qs)) same e)

span_or : (starts : List ℕ) (a b : Option (ℕ × ℕ)) → span_by starts (option_or a b) ≡ option_or (span_by starts a) (span_by starts b)
span_or starts None b = refl
span_or starts (Some x) b = refl

span_tagged : (starts : List ℕ) (f s : ℕ) (o : Option ℕ) → slice_index starts f ≡ s → span_by starts (tagged f o) ≡ tagged s o
span_tagged starts f s None e = refl
span_tagged starts f s (Some x) e = ap (λ (y : ℕ). Some (y, x)) e

or_assoc : (a b c : Option (ℕ × ℕ)) → option_or (option_or a b) c ≡ option_or a (option_or b c)
or_assoc None b c = refl
or_assoc (Some x) b c = refl

-- the ways after an item begin where those began that they come from
pub span_next : (ends : Ends) (starts : List ℕ) (next : List Way) → first_tagged_end ends (map at_of next) (map (start_in starts) next) ≡ span_by starts (first_end ends next)
span_next ends starts [] = refl
span_next ends starts (l ∷ ls) =
    ap₂ option_or (sym (span_tagged starts l.from (start_in starts l) (ends l.at) refl)) (span_next ends starts ls) ∙ sym (span_or starts (way_end ends l) (first_end ends ls))

after_front : (front : List ℕ) (s : ℕ) (starts : List ℕ) → slice_index (front ++ s ∷ starts) (length front) ≡ s
after_front [] s starts = refl
after_front (x ∷ front) s starts = after_front front s starts

span_from : (ends : Ends) (front qs starts : List ℕ) → length starts ≡ length qs → span_by (front ++ starts) (first_end ends (waiting (length front) qs)) ≡ first_tagged_end ends qs starts
span_from ends front [] starts e = refl
span_from ends front (q ∷ qs) [] e = absurd (omega (arith, e))
span_from ends front (q ∷ qs) (s ∷ starts) e =
    span_or (front ++ s ∷ starts) (tagged (length front) (ends q)) (first_end ends (waiting (suc (length front)) qs))
    ∙ ap₂ option_or (span_tagged (front ++ s ∷ starts) (length front) s (ends q) (after_front front s starts))
    (ap₂ (λ (x : List ℕ) (n : ℕ). span_by x (first_end ends (waiting n qs))) (sym (append_assoc front (s ∷ []) starts)) (sym (one_more front s))
    ∙ span_from ends (front ++ s ∷ []) qs starts (omega (arith, e))) where
      one_more : (front : List ℕ) (s : ℕ) → length (front ++ s ∷ []) ≡ suc (length front)
      one_more front s = omega (arith, length-append front (s ∷ []))

pub span_waiting : (ends : Ends) (qs starts : List ℕ) → length starts ≡ length qs → first_tagged_end ends qs starts ≡ span_by starts (first_end ends (waiting 0 qs))
span_waiting ends qs starts e = sym (span_from ends [] qs starts e)

-- one more way begins
pub span_begun : (ends : Ends) (qs starts : List ℕ) (q s : ℕ) → length starts ≡ length qs
    → first_tagged_end ends (qs ++ q ∷ []) (starts ++ s ∷ []) ≡ option_or (first_tagged_end ends qs starts) (tagged s (ends q))
span_begun ends [] [] q s e = none (tagged s (ends q)) where
  none : (o : Option (ℕ × ℕ)) → option_or o None ≡ o
  none None = refl
  none (Some x) = refl
span_begun ends [] (t ∷ starts) q s e = absurd (omega (arith, e))
span_begun ends (p ∷ qs) [] q s e = absurd (omega (arith, e))
span_begun ends (p ∷ qs) (t ∷ starts) q s e =
    ap (option_or (tagged t (ends p))) (span_begun ends qs starts q s (omega (arith, e))) ∙ sym (or_assoc (tagged t (ends p)) (first_tagged_end ends qs starts) (tagged s (ends q)))

-- a step with where the ways began: those after the item, or else the match
pub span_step : (ends later : Ends) (qs starts : List ℕ) (next : List Way) (matched : Option ℕ) (here : ℕ) → length starts ≡ length qs
    → option_or (first_end later next) (match_end matched here) ≡ first_end ends (waiting 0 qs)
    → first_tagged_end ends qs starts ≡ option_or (first_tagged_end later (map at_of next) (map (start_in starts) next)) (span_by starts (match_end matched here))
span_step ends later qs starts next matched here e step =
    span_waiting ends qs starts e ∙ ap (span_by starts) (sym step) ∙ span_or starts (first_end later next) (match_end matched here)
    ∙ ap (λ (o : Option (ℕ × ℕ)). option_or o (span_by starts (match_end matched here))) (sym (span_next later starts next))

known_next : (known : ℕ → Bool) (n : ℕ) (next : List Way) → AllKnown known next → AllKnown known (waiting n (map at_of next))
known_next known n [] k = tt
known_next known n (l ∷ ls) k = (k.0, known_next known (suc n) ls k.1)

pub known_after : (known : ℕ → Bool) (next : List Way) → AllKnown known next → AllKnown known (waiting 0 (map at_of next))
known_after known next k = known_next known 0 next k

known_more : (known : ℕ → Bool) (n : ℕ) (qs : List ℕ) (q : ℕ) → AllKnown known (waiting n qs) → known q ≡ true → AllKnown known (waiting n (qs ++ q ∷ []))
known_more known n [] q k h = (h, tt)
known_more known n (p ∷ qs) q k h = (k.0, known_more known (suc n) qs q k.1 h)

pub known_begun : (known : ℕ → Bool) (qs : List ℕ) (q : ℕ) → AllKnown known (waiting 0 qs) → known q ≡ true → AllKnown known (waiting 0 (qs ++ q ∷ []))
known_begun known qs q k h = known_more known 0 qs q k h

-- a step on what the code treats alike
pub step_alike : (code : List Instruction) (ways : List ℕ) (u v : Seen) (next : List Way) (matched : Option ℕ) → IsAlike code u v → IsStep code ways v next matched
    → IsStep code ways u next matched
step_alike code ways u v next matched alike step here ends later known beyond rank solves all =
    step here ends later known beyond rank (λ q k. subst (λ (e : Effect). Obeys ends later known beyond rank e here q) (alike q) (solves q k)) all
