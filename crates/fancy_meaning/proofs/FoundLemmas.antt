-- What a search finds lies within its range, and its groups stand well.
use Rattle.std.proofs.Common.{◌≡◌, ◌∙◌, ap, ℕ, ◌+◌, ◌-◌, ◌≤◌, Bool, true, false, List, [], ◌∷◌, ◌++◌, length, Some, IsTrue, if◌then◌else◌, min, refl, subst, arith, le_refl, le_trans}
use Rattle.std.proofs.lemmas.Grind.{common_steps}
use Rattle.std.proofs.lemmas.Bool.Decides.{nat_tests}
use Rattle.fancy_input.specs.Places.{is_boundary}
use Rattle.fancy_input.specs.Requests.{effective_start, positions}
use Rattle.fancy_input.proofs.TextLemmas.{ascii_boundary}
use Rattle.fancy_meaning.specs.Context.{State}
use Rattle.fancy_meaning.specs.Events.{Event, mark, return, outcome, outcomes_in}
use Rattle.fancy_meaning.specs.Trace.{outcomes}
use Rattle.fancy_meaning.specs.Forward.{EachOutcome, IsBetween}
use Rattle.fancy_meaning.specs.Search.{Query, Answer, context_of, initial, trace_at, outcomes_at, answer_at, search, attempt, IsAccepted}
use Rattle.fancy_meaning.specs.Answers.{IsPosition}
use Rattle.fancy_meaning.specs.Placed.{any_place, Leads, KeepsBoundaries, by_characters, of_ascii, IsKeptFrom, LiesWithin}
use Rattle.fancy_meaning.proofs.ForwardLemmas.{LeadsOn-trace}
use Rattle.fancy_meaning.proofs.SearchLemmas.{found_from, answer_at-is}
use Rattle.fancy_meaning.proofs.LongestLemmas.{longest_answer_at}
use Rattle.fancy_meaning.proofs.AttemptLemmas.{attempt_some}
use Rattle.fancy_meaning.proofs.KeptLemmas.{KeptAt, kept_without}
use Rattle.fancy_meaning.proofs.KeptForward.{kept_forward}
use Rattle.fancy_meaning.proofs.LeadsLemmas.{leads_bytes, leads_ascii, leads_text}
use Rattle.fancy_meaning.proofs.PlacedLemmas.{IsInside, placed_at_start, trace_placed}

first_of_these : (P : State → Type 0) (x s : State) (xs before after : List State) → x ∷ xs ≡ before ++ s ∷ after → P x →
    ((more : List State) → xs ≡ more ++ s ∷ after → P s) → P s
first_of_these P x s xs [] after e h later = let same : x ≡ s = cc in subst P same h
first_of_these P x s xs (y ∷ before) after e h later = later before cc

-- what holds of each outcome holds of one that stands among them
one_outcome : (P : State → Type 0) (es : List Event) (before after : List State) (s : State) → outcomes_in es ≡ before ++ s ∷ after → EachOutcome P es → P s
one_outcome P [] [] after s e all = cc
one_outcome P [] (x ∷ before) after s e all = cc
one_outcome P (mark ∷ es) before after s e all = one_outcome P es before after s e all
one_outcome P (return ∷ es) before after s e all = one_outcome P es before after s e all
one_outcome P (outcome t ∷ es) before after s e all =
    first_of_these P t s (outcomes_in es) before after e all.0 (λ more d. one_outcome P es more after s d all.1)

position_count : (anchored : Bool) (n : ℕ) → (if anchored then min 1 n else n) ≤ n
position_count true n = grind (arith, nat_tests, common_steps)
position_count false n = omega arith

-- a position is at most the range's end
position_within : (q : Query) (p : ℕ) → IsPosition q p → p ≤ q.request.range_end
position_within q p h =
    let from = h.from in
    let before = h.before in
    let most = position_count q.request.anchored (q.request.range_end + 1 - effective_start q.request) in
    omega arith

-- What is found, the first outcome or the longest, is an accepted one of its position.
pub record IsTaken (q : Query) (f : Answer) : Type 0 where
  pub preferred : List State
  pub others : List State
  pub splits : outcomes_at q f.position ≡ preferred ++ f.state ∷ others
  pub stands : IsAccepted q f.position f.state

taken_by : (q : Query) (f : Answer) (b : Bool) → q.sought.longest ≡ b → answer_at q f.position ≡ Some f.state → IsTaken q f
taken_by q f false short e =
    let a = answer_at-is q f.position f.state short e in
    record { preferred = a.preferred; others = a.others; splits = a.splits; stands = a.stands }
taken_by q f true long e =
    let a = longest_answer_at q f.position f.state long e in
    record { preferred = a.preferred; others = a.others; splits = a.splits; stands = a.stands }

-- What a search finds is so at a position that was tried.
pub record IsReached (q : Query) (f : Answer) : Type 0 where
  pub tried : IsPosition q f.position
  pub taken : IsTaken q f

pub found-is_reached : (q : Query) (f : Answer) → search q ≡ Some f → IsReached q f
found-is_reached q f e =
    let found = found_from q (positions q.request) (effective_start q.request) f e in
    record { tried = record { from = found.from; before = found.before }; taken = taken_by q f q.sought.longest refl found.is }

outcome_holds : (q : Query) (f : Answer) (P : State → Type 0) → IsTaken q f → EachOutcome P (trace_at q f.position) → P f.state
unfolding outcomes
outcome_holds q f P answer all = one_outcome P (trace_at q f.position) answer.preferred answer.others f.state answer.splits all

-- where the pattern leads from good places to good places, and its position and its kept start are good
taken_placed : (q : Query) (f : Answer) (good : ℕ → Bool) → q.request.range_end ≤ length q.haystack →
    Leads (context_of q) q.sought.pattern good → (IsAccepted q f.position f.state → IsTrue (good f.position)) →
    (IsAccepted q f.position f.state → IsTrue (good f.state.kept)) → f.position ≤ q.request.range_end → IsTaken q f → LiesWithin q good f
taken_placed q f good range leads begins keeps within answer =
    let here = begins answer.stands in
    let limit = q.request.range_end in
    let between = outcome_holds q f (IsBetween f.position limit) answer
    (LeadsOn-trace (context_of q) limit q.sought.pattern (initial q f.position) within) in
    let inside = outcome_holds q f (IsInside q.haystack good limit) answer
    (trace_placed (context_of q) good limit q.sought.pattern range leads (initial q f.position)
    (record { placed = placed_at_start q.haystack good q.sought.groups f.position (le_trans within range) here; to = within })) in
    record {
      begins = between.from;
      ends = between.to;
      kept = λ without. outcome_holds q f (KeptAt f.position) answer
          (kept_without (context_of q) f.position limit q.sought.pattern without (initial q f.position) refl);
      forward = λ outside. outcome_holds q f (IsKeptFrom f.position) answer
          (kept_forward (context_of q) f.position limit q.sought.pattern outside (initial q f.position)
          (record { from = le_refl f.position; to = le_refl f.position }));
      accepted = answer.stands;
      starts = here;
      keeps = keeps answer.stands;
      placed = inside.placed;
    }

-- in bytes, each place is good
taken_within : (q : Query) (f : Answer) → q.request.range_end ≤ length q.haystack → f.position ≤ q.request.range_end → IsTaken q f → LiesWithin q any_place f
taken_within q f range = taken_placed q f any_place range (leads_bytes (context_of q) q.sought.pattern) (λ a. refl) (λ a. refl)

-- in text, boundaries are
taken_on_boundaries : (q : Query) (f : Answer) → q.request.range_end ≤ length q.haystack → KeepsBoundaries q →
    f.position ≤ q.request.range_end → IsTaken q f → LiesWithin q (is_boundary q.haystack) f
taken_on_boundaries q f range (by_characters text m no_bytes on) =
    taken_placed q f (is_boundary q.haystack) range (leads_text (context_of q) q.sought.pattern text m no_bytes) (λ a. a.begins on)
    (λ a. a.keeps on)
taken_on_boundaries q f range (of_ascii ascii) =
    taken_placed q f (is_boundary q.haystack) range (leads_ascii (context_of q) q.sought.pattern ascii)
    (λ a. ascii_boundary q.haystack ascii f.position) (λ a. ascii_boundary q.haystack ascii f.state.kept)

-- of what a search finds
pub answer_within : (q : Query) (f : Answer) → q.request.range_end ≤ length q.haystack → search q ≡ Some f → LiesWithin q any_place f
answer_within q f range e =
    let reached = found-is_reached q f e in
    taken_within q f range (position_within q f.position reached.tried) reached.taken

pub answer_on_boundaries : (q : Query) (f : Answer) → q.request.range_end ≤ length q.haystack → KeepsBoundaries q → search q ≡ Some f →
    LiesWithin q (is_boundary q.haystack) f
answer_on_boundaries q f range keeps e =
    let reached = found-is_reached q f e in
    taken_on_boundaries q f range keeps (position_within q f.position reached.tried) reached.taken

-- of what an attempt finds at a position within the range
module _ (q : Query) (p : ℕ) (f : Answer) (range : q.request.range_end ≤ length q.haystack) (to : p ≤ q.request.range_end) (e : attempt q p ≡ Some f) where
  here : f.position ≡ p
  here = (attempt_some q p f e).1

  within_range : f.position ≤ q.request.range_end
  within_range = omega (arith, here, to)

  attempt_taken : IsTaken q f
  attempt_taken = taken_by q f q.sought.longest refl (ap (answer_at q) here ∙ (attempt_some q p f e).0)

  pub attempt_within : LiesWithin q any_place f
  attempt_within = taken_within q f range within_range attempt_taken

  pub attempt_on_boundaries : KeepsBoundaries q → LiesWithin q (is_boundary q.haystack) f
  attempt_on_boundaries keeps = taken_on_boundaries q f range keeps within_range attempt_taken
