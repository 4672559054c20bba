-- What the ways find is the answer of the search.
use Rattle.std.proofs.Common.{◌≡◌, ℕ, zero, suc, ◌+◌, ◌<◌, ◌≤◌, Bool, true, false, List, [], ◌∷◌, length, Option, Some, None, refl, sym, ap, ap₂, ◌∙◌, subst, arith, replicate}
use Rattle.std.specs.Prelude.{slice_index, option_map, is_some, if◌then◌else◌, IfSome, ◌-◌, nat_lt}
use Rattle.std.specs.Option.{option_or}
use Rattle.std.proofs.lemmas.Bool.Decides.{nat_tests}
use Rattle.std.proofs.lemmas.Option.{none-some}
use Rattle.fancy_input.specs.declared.span.Span.{Span}
use Rattle.fancy_code.specs.declared.code.Code.{Code}
use Rattle.fancy_code.specs.Code.{instrs_of}
use Rattle.fancy_meaning.specs.Context.{Context, State}
use Rattle.fancy_code.specs.Compile.{IsCodeOf, AreEasy}
use Rattle.fancy_code.specs.Run.{Raw, Note, Stop, Sign, choice_opened, returned, fetched, erase}
use Rattle.fancy_code.specs.Thread.{IsKnown, thread_run, events_of, first_accepted, ends_well, pair_run}
use Rattle.fancy_meaning.specs.Search.{Query, Answer, context_of, is_match_boundary, answer_at, answer_from, attempt, search}
use Rattle.fancy_code.specs.Queries.{answer_with}
use Rattle.fancy_code.specs.Thread.{empty_slot, slot_span, state_of, starts_of}
use Rattle.fancy_code.proofs.EasyCode.{Alike, BothAlike, run_both}
use Rattle.fancy_code.proofs.EasyContinues.{continued_at}
use Rattle.fancy_code.proofs.ThreadLemmas.{map-replicate}
use Rattle.fancy_prefilter.specs.NextOpening.{StartsNot}
use Rattle.fancy_code.proofs.PassedLemmas.{openings_passed}
use Rattle.fancy_code.proofs.PositionLemmas.{first_thread, deep, attempt_known, attempt_answer, search_skip}
use Rattle.fancy_meaning.proofs.AttemptLemmas.{one_position, search_hit, search_miss, search_over}
use Rattle.fancy_states.specs.Ways.{tagged}
use Rattle.fancy_states.specs.Futures.{ArePlain, EndsNoGroup, place_of, end_at, leftmost}
use Rattle.fancy_states.specs.Search.{Begun, IsFoundAs, ends_in, ends_of, at_position}
use Rattle.fancy_states.proofs.FutureLemmas.{plain_easy}
use Rattle.fancy_states.proofs.UntouchedLemmas.{IsUntouched, outcome_untouched}

module _ (ok : State → Bool) (by_place : (s r : State) → s.place ≡ r.place → ok s ≡ ok r) where
  place_if : (c d : Bool) (s r : State) (o p : Option State) → c ≡ d → s.place ≡ r.place → option_map place_of o ≡ option_map place_of p
      → option_map place_of (if c then Some s else o) ≡ option_map place_of (if d then Some r else p)
  place_if c d s r o p e f h = subst (λ (x : Bool). option_map place_of (if c then Some s else o) ≡ option_map place_of (if x then Some r else p)) e (same c) where
    same : (x : Bool) → option_map place_of (if x then Some s else o) ≡ option_map place_of (if x then Some r else p)
    same true = ap Some f
    same false = h

  place_note : (m n : Sign) (w x : List Raw) → m ≡ n → option_map place_of (first_accepted ok (erase w)) ≡ option_map place_of (first_accepted ok (erase x))
      → option_map place_of (first_accepted ok (erase (Note m ∷ w))) ≡ option_map place_of (first_accepted ok (erase (Note n ∷ x)))
  place_note m n w x e h = subst (λ (k : Sign). option_map place_of (first_accepted ok (erase (Note m ∷ w))) ≡ option_map place_of (first_accepted ok (erase (Note k ∷ x)))) e (same m) where
    same : (k : Sign) → option_map place_of (first_accepted ok (erase (Note k ∷ w))) ≡ option_map place_of (first_accepted ok (erase (Note k ∷ x)))
    same choice_opened = h
    same returned = h
    same fetched = h

  alike_place : (w x : List Raw) → Alike w x → option_map place_of (first_accepted ok (erase w)) ≡ option_map place_of (first_accepted ok (erase x))
  alike_place [] [] f = refl
  alike_place [] (e ∷ x) f = absurd f
  alike_place (e ∷ w) [] f = absurd f
  alike_place (Note m ∷ w) (Note n ∷ x) f = place_note m n w x f.0 (alike_place w x f.1)
  alike_place (Note m ∷ w) (Stop q s v ∷ x) f = absurd f
  alike_place (Stop q s v ∷ w) (Note m ∷ x) f = absurd f
  alike_place (Stop q s v ∷ w) (Stop p r u ∷ x) f = place_if (ok s) (ok r) s r _ _ (by_place s r f.0) f.0 (alike_place w x f.1)

  both_place : (o p : Option (List Raw)) → BothAlike o p → option_map place_of (first_accepted ok (events_of o)) ≡ option_map place_of (first_accepted ok (events_of p))
  both_place None None f = refl
  both_place None (Some x) f = absurd f
  both_place (Some w) None f = absurd f
  both_place (Some w) (Some x) f = alike_place w x f

both_known : (o p : Option (List Raw)) → BothAlike o p → IsKnown o → is_some p ≡ true
both_known None p f k = absurd k
both_known (Some w) None f k = absurd f
both_known (Some w) (Some x) f k = refl

known_some : (o : Option (List Raw)) → IsKnown o → (w : List Raw) × (o ≡ Some w)
known_some None k = absurd k
known_some (Some w) k = (w, refl)

-- the match that was found, if one was, starts at its position, and where `whole` holds, it has these groups
abbrev pub IsWhole : Type 0 → List (Option Span) → Option Answer → Type 0
IsWhole whole groups None = Unit {0}
IsWhole whole groups (Some f) = IsUntouched whole groups f.position f.state

-- what was found by its two ends
found_by_ends : (whole : Type 0) (groups : List (Option Span)) (span : Option Span) (o : Option Answer) → IsWhole whole groups o
    → option_map ends_in span ≡ option_map ends_of o → whole → answer_with groups (option_map at_position span) ≡ o
found_by_ends whole groups None None k e h = refl
found_by_ends whole groups None (Some f) k e h = cc
found_by_ends whole groups (Some s) None k e h = cc
found_by_ends whole groups (Some s) (Some f) k e h =
    let both : (s.start, s.end) ≡ (f.position, f.state.place) = cc in
    let one : s.start ≡ f.position = ap (λ (t : ℕ × ℕ). t.0) both in
    let two : s.end ≡ f.state.place = ap (λ (t : ℕ × ℕ). t.1) both in
    ap₂ (λ (i j : ℕ). Some (record { position = i; state = record { place = j; captures = groups; kept = i } })) one two
    ∙ ap₂ (λ (k : ℕ) (gs : List (Option Span)). Some (record { position = f.position; state = record { place = f.state.place; captures = gs; kept = k } })) (sym k.start) (sym (k.captures h))

-- the same, with the groups of the match
found_as : (code : Code) (span : Option Span) (o : Option Answer) → IsWhole (EndsNoGroup (instrs_of code)) (replicate code.groups None) o
    → option_map ends_in span ≡ option_map ends_of o → IsFoundAs code (option_map at_position span) o
found_as code span None k e = record {
  same = found_by_ends (Unit {0}) (replicate code.groups None) span None tt e tt;
  none = λ _. refl;
}
found_as code span (Some f) k e = record {
  same = found_by_ends (Unit {0}) f.state.captures span (Some f) (record { captures = λ _. refl; start = k.start }) e tt;
  none = k.captures;
}

-- where an answer is, as its two ends tell
some_ends : (s : ℕ) (o : Option Answer) → IfSome (option_map ends_of o) (λ e. s ≤ e.0) → IfSome o (λ f. s ≤ f.position)
some_ends s None le = tt
some_ends s (Some f) le = le

-- where no answer is before a place, the positions from it on have it
answered_ahead : (q : Query) (n p s : ℕ) → p ≤ s → s ≤ p + n → IfSome (answer_from q n p) (λ f. s ≤ f.position) → answer_from q (p + n - s) s ≡ answer_from q n p
answered_ahead q zero p s low high begins = ap₂ (answer_from q) (omega (arith, low)) (omega (arith, low, high))
answered_ahead q (suc n) p s low high begins = by (λ lt. answered_ahead q n (p + 1) s (omega (arith, lt)) (omega (arith, high))) (nat_lt p s) refl where
  Later : Type 0
  Later = p < s → IfSome (answer_from q n (p + 1)) (λ f. s ≤ f.position) → answer_from q (p + 1 + n - s) s ≡ answer_from q n (p + 1)

  there : Later → p < s → (o : Option State) → answer_at q p ≡ o → answer_from q (p + suc n - s) s ≡ answer_from q (suc n) p
  there later lt None e =
      let next = search_miss q (suc n) n p refl e in
      ap (λ (k : ℕ). answer_from q (k - s) s) (omega arith) ∙ later lt (subst (λ (o : Option Answer). IfSome o (λ f. s ≤ f.position)) next begins) ∙ sym next
  there later lt (Some r) e =
      let le : s ≤ p = subst (λ (o : Option Answer). IfSome o (λ f. s ≤ f.position)) (search_hit q (suc n) n p refl r e) begins in
      absurd (omega (arith, lt, le))

  by : Later → (b : Bool) → nat_lt p s ≡ b → answer_from q (p + suc n - s) s ≡ answer_from q (suc n) p
  by later true lt = there later (grind (arith, nat_tests)) (answer_at q p) refl
  by later false lt = let same : s ≡ p = grind (arith, nat_tests) in ap₂ (answer_from q) (omega (arith, same)) same

module _ (q : Query) (code : Code) (is : IsCodeOf q.sought.pattern code) (groups : q.sought.groups ≡ code.groups) (meant : q.sought.meaning ≡ code.meaning)
    (only : q.sought.not_empty ≡ false) (first : q.sought.longest ≡ false) (inside : q.request.range_end ≤ length q.haystack)
    (x : Context) (here : Option ℕ) (same : x ≡ continued_at (context_of q) here) (plain : ArePlain (instrs_of code)) where
  easy : AreEasy (instrs_of code)
  easy = plain_easy (instrs_of code) plain

  abbrev pub Deep : ℕ
  Deep = deep q code is groups meant only first inside x here same

  -- where a match may begin and end
  abbrev Good : ℕ → Bool
  Good = is_match_boundary q.sought.on_boundaries q.haystack

  alike : (p : ℕ) → BothAlike (thread_run x q.request.range_end (instrs_of code) Deep p (first_thread code p)) (pair_run x q.request.range_end (instrs_of code) Deep code.start p)
  alike p =
      run_both x q.request.range_end (instrs_of code) easy Deep code.start (state_of p (first_thread code p))
      (record { place = p; captures = []; kept = 0 }) (starts_of (first_thread code p)) [] refl

  known : (p : ℕ) → p ≤ q.request.range_end → IsKnown (thread_run x q.request.range_end (instrs_of code) Deep p (first_thread code p))
  known p le = attempt_known q code is groups meant only first inside x here same easy p (first_thread code p) refl le

  answer_is : (p : ℕ) → p ≤ q.request.range_end → Good p ≡ true
      → first_accepted (ends_well Good) (events_of (thread_run x q.request.range_end (instrs_of code) Deep p (first_thread code p))) ≡ answer_at q p
  answer_is p le may = attempt_answer q code is groups meant only first inside x here same easy p (first_thread code p) refl le may

  pub begun : Begun Good x q.request.range_end (instrs_of code) Deep code.start
  begun p le = both_known _ _ (alike p) (known p le)

  -- at a position
  end_is : (p : ℕ) → p ≤ q.request.range_end → Good p ≡ true
      → end_at Good x q.request.range_end (instrs_of code) Deep p code.start ≡ option_map place_of (answer_at q p)
  end_is p le may =
      sym (both_place (ends_well Good) (λ s r e. ap Good e) _ _ (alike p))
      ∙ ap (option_map place_of) (answer_is p le may)

  -- nothing is found where no match starts
  none_here : (p : ℕ) (o : Option State) → answer_at q p ≡ o → attempt q p ≡ None → answer_at q p ≡ None
  none_here p None e none = e
  none_here p (Some s) e none = absurd (none-some _ (sym none ∙ ap (option_map (λ (t : State). record { position = p; state = t })) e))

  pub starts_none : ((k : ℕ) → slice_index q.haystack k < 256) → (p : ℕ) → p ≤ q.request.range_end → Good p ≡ true
      → StartsNot code.prefilter q.haystack q.request.range_end p → end_at Good x q.request.range_end (instrs_of code) Deep p code.start ≡ None
  starts_none bytes p le may never =
      let alone : (k : ℕ) → p ≤ k → k < p + 1 → StartsNot code.prefilter q.haystack q.request.range_end k =
      λ k low high. subst (StartsNot code.prefilter q.haystack q.request.range_end) (omega (arith, low, high)) never in
      let none = openings_passed q code is meant inside bytes 1 0 p (p + 1) (omega arith) (omega (arith, le)) (omega arith) alone in
      end_is p le may ∙ ap (option_map place_of) (none_here p (answer_at q p) refl (sym (one_position q 1 p refl) ∙ none ∙ search_over q 0 (p + 1) refl))

  -- The code ends no group.
  abbrev Whole : Type 0
  Whole = EndsNoGroup (instrs_of code)

  -- a match starts at its position, and no group takes part in it where the code ends none
  whole_at : (p : ℕ) (s : State) → p ≤ q.request.range_end → Good p ≡ true → answer_at q p ≡ Some s → IsUntouched Whole (replicate code.groups None) p s
  whole_at p s le may e =
      let w = known_some (thread_run x q.request.range_end (instrs_of code) Deep p (first_thread code p)) (known p le) in
      outcome_untouched Whole (replicate code.groups None) p x q.request.range_end (instrs_of code) plain (λ none. none) Deep code.start (state_of p (first_thread code p)) s
      (starts_of (first_thread code p)) w.0 (ends_well Good)
      (record { captures = λ _. map-replicate slot_span code.groups empty_slot; start = refl }) w.1
      (sym (ap (λ (o : Option (List Raw)). first_accepted (ends_well Good) (events_of o)) w.1) ∙ answer_is p le may ∙ e)

  pub leftmost_is : (n p : ℕ) → p + n ≤ q.request.range_end + 1
      → leftmost Good x q.request.range_end (instrs_of code) Deep code.start n p ≡ option_map ends_of (answer_from q n p)
  leftmost_is zero p le = ap (option_map ends_of) (sym (search_over q 0 p refl))
  leftmost_is (suc n) p le = by_boundary (leftmost_is n (p + 1) (omega (arith, le))) (Good p) refl where
    by_answer : (leftmost Good x q.request.range_end (instrs_of code) Deep code.start n (p + 1) ≡ option_map ends_of (answer_from q n (p + 1))) → (o : Option State) → answer_at q p ≡ o
        → option_or (tagged p (option_map place_of o)) (leftmost Good x q.request.range_end (instrs_of code) Deep code.start n (p + 1)) ≡ option_map ends_of (answer_from q (suc n) p)
    by_answer next None e = next ∙ ap (option_map ends_of) (sym (search_miss q (suc n) n p refl e))
    by_answer next (Some s) e = ap (option_map ends_of) (sym (search_hit q (suc n) n p refl s e))

    by_boundary : (leftmost Good x q.request.range_end (instrs_of code) Deep code.start n (p + 1) ≡ option_map ends_of (answer_from q n (p + 1))) → (b : Bool) → Good p ≡ b
        → leftmost Good x q.request.range_end (instrs_of code) Deep code.start (suc n) p ≡ option_map ends_of (answer_from q (suc n) p)
    by_boundary next true e =
        ap (λ (b : Bool). option_or (tagged p (if b then (end_at Good x q.request.range_end (instrs_of code) Deep p code.start) else None)) (leftmost Good x q.request.range_end (instrs_of code) Deep code.start n (p + 1))) e
        ∙ ap (λ (o : Option ℕ). option_or (tagged p o) (leftmost Good x q.request.range_end (instrs_of code) Deep code.start n (p + 1))) (end_is p (omega (arith, le)) e)
        ∙ by_answer next (answer_at q p) refl
    by_boundary next false e =
        ap (λ (b : Bool). option_or (tagged p (if b then (end_at Good x q.request.range_end (instrs_of code) Deep p code.start) else None)) (leftmost Good x q.request.range_end (instrs_of code) Deep code.start n (p + 1))) e
        ∙ next ∙ ap (option_map ends_of) (sym (search_miss q (suc n) n p refl (search_skip q p first e)))

  -- each answer of a search is such a match
  pub whole_is : (n p : ℕ) → p + n ≤ q.request.range_end + 1 → IsWhole Whole (replicate code.groups None) (answer_from q n p)
  whole_is zero p le = subst (IsWhole Whole (replicate code.groups None)) (sym (search_over q 0 p refl)) tt
  whole_is (suc n) p le = by (whole_is n (p + 1) (omega (arith, le))) (Good p) refl (answer_at q p) refl where
    rest : IsWhole Whole (replicate code.groups None) (answer_from q n (p + 1)) → answer_at q p ≡ None → IsWhole Whole (replicate code.groups None) (answer_from q (suc n) p)
    rest next e = subst (IsWhole Whole (replicate code.groups None)) (sym (search_miss q (suc n) n p refl e)) next

    by : IsWhole Whole (replicate code.groups None) (answer_from q n (p + 1)) → (b : Bool) → Good p ≡ b → (o : Option State) → answer_at q p ≡ o
        → IsWhole Whole (replicate code.groups None) (answer_from q (suc n) p)
    by next true may None e = rest next e
    by next true may (Some s) e = subst (IsWhole Whole (replicate code.groups None)) (sym (search_hit q (suc n) n p refl s e)) (whole_at p s (omega (arith, le)) may e)
    by next false may o e = rest next (search_skip q p first may)

  -- where no match begins before a place, the positions from it on have the answer
  pub passed : (n p s : ℕ) → p + n ≤ q.request.range_end + 1 → p ≤ s → s ≤ p + n
      → IfSome (leftmost Good x q.request.range_end (instrs_of code) Deep code.start n p) (λ e. s ≤ e.0)
      → answer_from q (p + n - s) s ≡ answer_from q n p
  passed n p s within low high begins =
      answered_ahead q n p s low high (some_ends s (answer_from q n p) (subst (λ (o : Option (ℕ × ℕ)). IfSome o (λ e. s ≤ e.0)) (leftmost_is n p within) begins))

  -- what was found by its ends, which are those of the leftmost match, is the answer of the search
  pub answered : (n p : ℕ) → p + n ≤ q.request.range_end + 1 → answer_from q n p ≡ search q → (found : Option Span)
      → option_map ends_in found ≡ leftmost Good x q.request.range_end (instrs_of code) Deep code.start n p
      → IsFoundAs code (option_map at_position found) (search q)
  answered n p le all found ends =
      found_as code found (search q) (subst (IsWhole Whole (replicate code.groups None)) all (whole_is n p le))
      (ends ∙ leftmost_is n p le ∙ ap (option_map ends_of) all)
