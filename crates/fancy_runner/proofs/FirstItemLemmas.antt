-- Positions of which the first item tells that attempts there find nothing.
use Rattle.std.proofs.Common.{◌≡◌, ℕ, ◌+◌, ◌-◌, ◌<◌, ◌≤◌, Bool, true, false, List, [], length, Option, Some, None, refl, sym, ap, ◌∙◌, inl, inr, arith}
use Rattle.std.specs.Prelude.{is_some}
use Rattle.std.proofs.Common.{Bor}
use Rattle.fancy_tree.specs.Pattern.{Pattern}
use Rattle.fancy_input.specs.declared.input.Request.{Request}
use Rattle.fancy_code.specs.declared.code.Code.{Code}
use Rattle.fancy_code.specs.Code.{instrs_of}
use Rattle.fancy_code.specs.Queries.{query_of, unfiltered}
use Rattle.fancy_code.proofs.EasyContinues.{continued_at}
use Rattle.fancy_code.proofs.PositionLemmas.{attempt_known, attempt_answer, search_skip, first_thread}
use Rattle.fancy_meaning.proofs.SkipLemmas.{skip_none}
use Rattle.fancy_meaning.specs.Search.{Query, answer_at, answer_from, context_of, is_match_boundary}
use Rattle.fancy_meaning.specs.declared.options.SearchOptions.{SearchOptions}
use Rattle.fancy_meaning.specs.declared.reading.SuppressedEnds.{SuppressedEnds}
use Rattle.std.proofs.lemmas.Bool.{true≢false, false_from_ne_true}
use Rattle.fancy_tree.specs.Sets.{has}
use Rattle.fancy_code.proofs.InstructionLemmas.{length-instrs_of}
use Rattle.fancy_code.specs.Attempt.{instrs_in, context_in, may_end_in}
use Rattle.fancy_code.specs.Instructions.{edges_in}
use Rattle.fancy_code.specs.Compile.{IsCodeOf, AreEasy, depth}
use Rattle.fancy_code.specs.Instructions.{Member}
use Rattle.fancy_code.specs.Run.{Note, fetched, before, onward, run}
use Rattle.fancy_code.specs.Thread.{Thread, state_of, starts_of, first_accepted, ends_well, events_of, thread_run}
use Rattle.fancy_code.specs.declared.attempt.Attempt.{Attempt}
use Rattle.fancy_code.specs.declared.step.Next.TheVariants.{On}
use Rattle.fancy_meaning.specs.Context.{State, past_item}
use Rattle.fancy_runner.specs.declared.first_item.FirstItem.{FirstItem}
use Rattle.fancy_runner.specs.Attempt.{begins_with, marks_in, AllFailedIn}
use Rattle.fancy_runner.specs.FirstItem.{OpensWith, FindsNone}
use Rattle.fancy_runner.specs.Runner.{Stepped}
use Rattle.fancy_runner.proofs.BranchLemmas.{opened_on}
use Rattle.fancy_runner.proofs.RunnerLemmas.{hits_is}
use Rattle.fancy_runner.proofs.RunnerSteps.{acts, moved}

none_of : (o : Option State) → is_some o ≡ false → o ≡ None
none_of None e = refl
none_of (Some s) e = absurd (true≢false e)

module _ (a : Attempt) (easy : AreEasy (instrs_in a)) (item : FirstItem) (opens : OpensWith a.code.now item) (table : List Bool) (place past : ℕ)
    (stands : past_item (context_in a) (has (edges_in item.set.now)) place ≡ Some past) (forth : place ≤ past) (ends : past ≤ a.last)
    (seen : marks_in a table opens.next past ≡ true) where
  abbrev Good : ℕ → Bool
  Good = may_end_in a

  -- the thread before the item, and the one after it
  abbrev here : Thread
  here = (begins_with a opens.group opens.at place).current

  abbrev there : Thread
  there = record here { at = opens.next; place = past }

  abbrev first_of : ℕ → ℕ → Thread → Option State
  first_of kept deep t = first_accepted (ends_well Good) (events_of (thread_run (context_in a) a.last (instrs_in a) deep kept t))

  -- what comes after the item failed before
  failed_there : (kept deep : ℕ) → AllFailedIn a place deep table → first_of kept deep there ≡ None
  failed_there kept deep failed =
      none_of (first_of kept deep there)
      (false_from_ne_true _ (λ e. failed opens.next past ((rw (sym (length-instrs_of a.code.now)) at opens.inside, forth, ends), seen) (sym (hits_is Good (context_in a) place a.last (instrs_in a) easy deep kept there) ∙ e)))

  pub finds_none : FindsNone a table place
  finds_none kept deep known failed =
      let begun = opened_on a place kept deep opens.group a.code.now.start opens.at opens.opens known in
      let reads = acts (context_in a) a.last (instrs_in a) deep kept here begun.0 (Member (edges_in item.set.now) opens.next) opens.reads
      ∙ ap (λ (o : Option ℕ). before (Note fetched) (onward a.last (run (context_in a) a.last (instrs_in a) deep) opens.next (state_of kept here) (starts_of here) o)) stands in
      let stepped : Stepped (context_in a) a.last (instrs_in a) deep kept On here [] there [] =
      moved (context_in a) a.last (instrs_in a) deep kept here begun.0 On (Some past) opens.next there [] [] reads (ends, refl) refl in
      begun.1
      ∙ (elim stepped [
        | inl went ↦ went.0.1 (ends_well Good) ∙ failed_there kept deep failed
        | inr parted ↦ absurd (omega (arith, ap length parted.2))
      ])

-- a search goes on at the first position of which it is not told that an attempt finds nothing
module _ (code : Bor Code) (haystack : Bor (List ℕ)) (request : Request) (options : SearchOptions) (base : ℕ) (suppressed : SuppressedEnds) (step_limit : Option ℕ) (p : Pattern) (on : Bool)
    (is : IsCodeOf p code.now) (inside : request.range_end ≤ length haystack.now) (easy : AreEasy (instrs_of code.now)) where
  abbrev asked : Query
  asked = query_of p code.now (unfiltered options) haystack.now request on

  abbrev attempt_of : Attempt
  attempt_of = record { code = code; haystack = haystack; base = base; last = request.range_end; on_boundaries = options.on_boundaries; suppressed = suppressed; step_limit = step_limit }

  pub followed_passed : context_in attempt_of ≡ continued_at (context_of asked) (Some base) → (table : List Bool) (low n m from to : ℕ) → low ≤ from → from ≤ to → to ≤ request.range_end + 1
      → n ≡ (to - from) + m → AllFailedIn attempt_of low (depth (length haystack.now) p + 1) table
      → ((k : ℕ) → from ≤ k → k < to → FindsNone attempt_of table k) → answer_from asked n from ≡ answer_from asked m to
  followed_passed same table low n m from to le on_to within count failed none =
      skip_none asked (to - from) n m from to count (omega (arith, on_to)) (λ k since before. at k since before (is_match_boundary options.on_boundaries haystack.now k) refl) where
        at : (k : ℕ) → from ≤ k → k < to → (b : Bool) → is_match_boundary options.on_boundaries haystack.now k ≡ b → answer_at asked k ≡ None
        at k since before false may = search_skip asked k refl may
        at k since before true may =
            sym (attempt_answer asked code.now is refl refl refl refl inside (context_in attempt_of) (Some base) same easy k (first_thread code.now k) refl (omega (arith, before, within)) may)
            ∙ none k since before k (depth (length haystack.now) p + 1)
            (attempt_known asked code.now is refl refl refl refl inside (context_in attempt_of) (Some base) same easy k (first_thread code.now k) refl (omega (arith, before, within)))
            (λ q i seen hit. failed q i ((seen.0.0, omega (arith, le, since, seen.0.1), seen.0.2), seen.1) hit)
