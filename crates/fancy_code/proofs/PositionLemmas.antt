-- An attempt at a position, and the positions of a search.
use Rattle.std.proofs.Common.{◌≡◌, ℕ, ◌+◌, ◌-◌, ◌<◌, ◌≤◌, min, Bool, true, false, not, ◌&&◌, ◌||◌, List, ◌==◌, filter, length, Option, None, refl, sym, ap, ◌∙◌, subst, arith, replicate}
use Rattle.std.proofs.lemmas.List.{length-replicate}
use Rattle.std.proofs.lemmas.Bool.{true≢false}
use Rattle.std.specs.Prelude.{option_map, if◌then◌else◌}
use Rattle.fancy_input.specs.declared.input.Request.{Request}
use Rattle.fancy_input.specs.Requests.{effective_start, positions}
use Rattle.fancy_input.specs.declared.span.Span.{Span}
use Rattle.fancy_code.specs.declared.code.Code.{Code}
use Rattle.fancy_meaning.specs.Context.{Context, State}
use Rattle.fancy_meaning.specs.Trace.{trace, outcomes}
use Rattle.fancy_code.specs.Code.{instrs_of}
use Rattle.fancy_code.specs.Run.{Raw, Given}
use Rattle.fancy_code.specs.Compile.{IsCodeOf, AreEasy, depth}
use Rattle.fancy_meaning.specs.Search.{Query, context_of, initial, trace_at, outcomes_at, is_match_boundary, accepted, first_one, longest_one, answer_at, attempt, search}
use Rattle.fancy_code.specs.Thread.{Thread, empty_slot, slot_span, slot_from, state_of, starts_of, IsKnown, Known, thread_run, events_of, first_accepted, ends_well}
use Rattle.fancy_meaning.proofs.AttemptLemmas.{taken_at, anchored_query, anchored_search}
use Rattle.fancy_code.proofs.EasyContinues.{continued_at, run_elsewhere}
use Rattle.fancy_code.proofs.ThreadLemmas.{map-replicate}
use Rattle.fancy_code.proofs.WholeCode.{Whole, program_gives}
use Rattle.fancy_code.proofs.Keeps.{known_keeps, same_accepted, first_filtered, none_filtered}

accepted_is : (a b c d n : Bool) → a ≡ true → b ≡ true → n ≡ false → (a && (b && (c && (not n || d)))) ≡ c
accepted_is true true true d false e f g = refl
accepted_is true true false d false e f g = refl
accepted_is true true c d true e f g = absurd (true≢false g)
accepted_is true false c d n e f g = absurd (true≢false (sym f))
accepted_is false b c d n e f g = absurd (true≢false (sym e))

-- the thread at the start of an attempt
abbrev pub first_thread : Code → ℕ → Thread
first_thread code p = record { at = code.start; place = p; slots = replicate code.groups empty_slot }

module _ (q : Query) (code : Code) (is : IsCodeOf q.sought.pattern code) (groups : q.sought.groups ≡ code.groups) (meant : q.sought.meaning ≡ code.meaning)
    (only : q.sought.not_empty ≡ false) (first : q.sought.longest ≡ false) (inside : q.request.range_end ≤ length q.haystack)
    (x : Context) (here : Option ℕ) (same : x ≡ continued_at (context_of q) here) where
  -- how deep the code goes
  abbrev pub deep : ℕ
  deep = depth (length q.haystack) q.sought.pattern + 1

  initially : (p : ℕ) → state_of p (first_thread code p) ≡ initial q p
  initially p =
      let f : List (Option Span) → State = λ l. record { place = p; captures = l; kept = p } in
      ap f (map-replicate slot_span code.groups empty_slot ∙ ap (λ (n : ℕ). replicate n None) (sym groups))

  starts : (p : ℕ) → starts_of (first_thread code p) ≡ replicate code.groups 0
  starts p = map-replicate slot_from code.groups empty_slot

  gives : (p : ℕ) → p ≤ q.request.range_end
      → Given Whole (thread_run (context_of q) q.request.range_end (instrs_of code) deep p (first_thread code p)) (trace_at q p)
  gives p le =
      let g = program_gives (context_of q) q.request.range_end q.sought.pattern code is meant inside (state_of p (first_thread code p)) (starts_of (first_thread code p)) le
      (ap length (starts p) ∙ length-replicate code.groups 0) in
      (g.0, g.1, g.2 ∙ ap (λ (s : State). trace (context_of q) q.request.range_end q.sought.pattern s) (initially p), g.3)

  -- the code gives the same wherever `\G` holds
  elsewhere : AreEasy (instrs_of code) → (p : ℕ) → thread_run (continued_at (context_of q) here) q.request.range_end (instrs_of code) deep p (first_thread code p)
      ≡ thread_run (context_of q) q.request.range_end (instrs_of code) deep p (first_thread code p)
  elsewhere easy p = run_elsewhere (context_of q) here q.request.range_end (instrs_of code) easy deep code.start (state_of p (first_thread code p)) (starts_of (first_thread code p))

  pub attempt_known : AreEasy (instrs_of code) → (p : ℕ) (t : Thread) → t ≡ first_thread code p → p ≤ q.request.range_end → Known x q.request.range_end (instrs_of code) deep p t
  attempt_known easy p t e le =
      subst (λ (u : Thread). Known x q.request.range_end (instrs_of code) deep p u) (sym e)
      (subst (λ (y : Context). Known y q.request.range_end (instrs_of code) deep p (first_thread code p)) (sym same) (subst IsKnown (sym (elsewhere easy p ∙ (gives p le).1)) tt))

  accepts : (p : ℕ) → is_match_boundary q.sought.on_boundaries q.haystack p ≡ true → (s : State) → s.kept ≡ p → accepted q p s ≡ is_match_boundary q.sought.on_boundaries q.haystack s.place
  accepts p may s kept =
      accepted_is (is_match_boundary q.sought.on_boundaries q.haystack p) (is_match_boundary q.sought.on_boundaries q.haystack s.kept) (is_match_boundary q.sought.on_boundaries q.haystack s.place) (not (s.kept == s.place)) q.sought.not_empty may (ap (is_match_boundary q.sought.on_boundaries q.haystack) kept ∙ may) only

  -- the answer at a position is the first outcome of the code there that ends well
  pub attempt_answer : AreEasy (instrs_of code) → (p : ℕ) (t : Thread) → t ≡ first_thread code p → p ≤ q.request.range_end → is_match_boundary q.sought.on_boundaries q.haystack p ≡ true
      → first_accepted (ends_well (is_match_boundary q.sought.on_boundaries q.haystack)) (events_of (thread_run x q.request.range_end (instrs_of code) deep p t)) ≡ answer_at q p
  unfolding answer_at outcomes
  attempt_answer easy p t e le may =
      let g = gives p le in
      ap (λ (u : Thread). first_accepted (ends_well (is_match_boundary q.sought.on_boundaries q.haystack)) (events_of (thread_run x q.request.range_end (instrs_of code) deep p u))) e
      ∙ ap (λ (y : Context). first_accepted (ends_well (is_match_boundary q.sought.on_boundaries q.haystack)) (events_of (thread_run y q.request.range_end (instrs_of code) deep p (first_thread code p)))) same
      ∙ ap (λ (o : Option (List Raw)). first_accepted (ends_well (is_match_boundary q.sought.on_boundaries q.haystack)) (events_of o)) (elsewhere easy p ∙ g.1)
      ∙ sym (same_accepted p (accepted q p) (is_match_boundary q.sought.on_boundaries q.haystack) (accepts p may) g.0
      (known_keeps (context_of q) q.request.range_end (instrs_of code) easy deep code.start (state_of p (first_thread code p)) (starts_of (first_thread code p)) g.0 g.1))
      ∙ ap (first_accepted (accepted q p)) g.2
      ∙ sym (first_filtered (accepted q p) (trace_at q p))
      ∙ sym (ap (λ (b : Bool). if b then (longest_one (filter (accepted q p) (outcomes_at q p))) else (first_one (filter (accepted q p) (outcomes_at q p)))) first)

-- nothing is found at a position where no match may begin
pub search_skip : (q : Query) (p : ℕ) → q.sought.longest ≡ false → is_match_boundary q.sought.on_boundaries q.haystack p ≡ false → answer_at q p ≡ None
unfolding answer_at
search_skip q p first may =
    ap (λ (b : Bool). if b then (longest_one (filter (accepted q p) (outcomes_at q p))) else (first_one (filter (accepted q p) (outcomes_at q p)))) first
    ∙ none_filtered (accepted q p) (λ s. ap (λ (b : Bool). b && (is_match_boundary q.sought.on_boundaries q.haystack s.kept && (is_match_boundary q.sought.on_boundaries q.haystack s.place && (not q.sought.not_empty || not (s.kept == s.place))))) may) (outcomes_at q p)

no_positions : (b : Bool) (n : ℕ) → n ≡ 0 → (if b then (min 1 n) else n) ≡ 0
no_positions true n e = ap (min 1) e
no_positions false n e = e

pub positions_none : (r : Request) → r.range_end < effective_start r → positions r ≡ 0
positions_none r lt = no_positions r.anchored (r.range_end + 1 - effective_start r) (omega arith)

one_position : (b : Bool) (n : ℕ) → 1 ≤ n → 1 ≤ (if b then (min 1 n) else n)
one_position true n le = omega arith
one_position false n le = le

pub positions_some : (r : Request) → effective_start r ≤ r.range_end → 1 ≤ positions r
positions_some r le = one_position r.anchored (r.range_end + 1 - effective_start r) (omega arith)

-- easy code answers the same at a position wherever `\G` holds
module _ (q : Query) (code : Code) (is : IsCodeOf q.sought.pattern code) (groups : q.sought.groups ≡ code.groups) (meant : q.sought.meaning ≡ code.meaning)
    (only : q.sought.not_empty ≡ false) (first : q.sought.longest ≡ false) (inside : q.request.range_end ≤ length q.haystack) (easy : AreEasy (instrs_of code))
    (p : ℕ) (to : p ≤ q.request.range_end) where
  alike_by : (b : Bool) → is_match_boundary q.sought.on_boundaries q.haystack p ≡ b → answer_at (anchored_query q p false) p ≡ answer_at q p
  alike_by false may = search_skip (anchored_query q p false) p first may ∙ sym (search_skip q p first may)
  alike_by true may =
      let other = anchored_query q p false in
      let x = context_of other in
      sym (attempt_answer other code is groups meant only first inside x x.continues_at refl easy p (first_thread code p) refl to may)
      ∙ attempt_answer q code is groups meant only first inside x x.continues_at refl easy p (first_thread code p) refl to may

  pub easy_alike : attempt (anchored_query q p false) p ≡ attempt q p
  easy_alike = ap (option_map (taken_at p)) (alike_by (is_match_boundary q.sought.on_boundaries q.haystack p) refl)

  -- the anchored search answers as the attempt does
  pub anchored_easy : effective_start q.request ≤ p → search (anchored_query q p false) ≡ attempt q p
  anchored_easy from = anchored_search q p false from to ∙ easy_alike
