-- The step at the last place of a search whose ways that wait all began at one place.
use Rattle.std.proofs.Common.{◌≡◌, ℕ, ◌+◌, ◌<◌, ◌≤◌, ◌-◌, inl, inr, List, Option, Some, None, refl, sym, ap, ◌∙◌, subst, arith, length, map, replicate, get_or, true}
use Rattle.std.specs.Prelude.{is_some, slice_index}
use Rattle.std.proofs.lemmas.List.{length-replicate}
use Rattle.std.specs.Option.{option_or}
use Rattle.fancy_input.specs.declared.span.Span.{Span}
use Rattle.fancy_code.specs.declared.attempt.Attempt.{Attempt}
use Rattle.fancy_code.specs.Attempt.{instrs_in}
use Rattle.fancy_alphabet.specs.Alike.{IsSeenLike}
use Rattle.fancy_alphabet.specs.Sights.{seen_in}
use Rattle.fancy_alphabet.specs.Units.{place_after}
use Rattle.fancy_alphabet.specs.declared.sight.Sight.{Sight}
use Rattle.fancy_automaton.specs.Decided.{IsGoal, search_goal}
use Rattle.fancy_automaton.specs.Sole.{IsAt}
use Rattle.fancy_automaton.specs.declared.hop.Stand.{Stand}
use Rattle.fancy_states.specs.Cells.{HasCell, HasRow, IsCell, row_if}
use Rattle.fancy_states.specs.Origins.{ComeFrom}
use Rattle.fancy_states.specs.Search.{Going, begun_if, found_or}
use Rattle.fancy_states.specs.Steps.{IsStep, at_of, span_by, start_in}
use Rattle.fancy_states.specs.Starts.{match_from}
use Rattle.fancy_states.specs.Ways.{match_end}
use Rattle.fancy_states.specs.declared.cells.Cell.{Cell}
use Rattle.fancy_states.specs.declared.cells.Cells.{Cells}
use Rattle.fancy_states.proofs.CellLemmas.{cell_is, row_here, row_ways}
use Rattle.fancy_states.proofs.StepLemmas.{step_alike}
use Rattle.fancy_automaton.proofs.GoingLemmas.{going_end, going_step, seen_reaches}
use Rattle.fancy_automaton.proofs.SoleLemmas.{earlier_began, index_one, last_began}

module _ (a : Attempt) (cells : Cells) (at : Stand) (ways starts : List ℕ) (found : Option Span) (row k : ℕ) (asked : Sight) (d : Cell)
    (is : IsAt a cells at ways starts found) (over : a.last ≤ at.place) (rowed : row ≡ row_if found at.next at.begun) (like : IsSeenLike a at.place asked)
    (has : HasCell cells.cells.items k row asked) (there : d ≡ get_or cells.cells.items k d) where
  own : IsCell a.code.now cells.rows.lists.items row asked d.next d.begun d.came.items d.matched d.origin
  own = cell_is a.code.now cells.rows.lists.items cells.cells.items k row asked d is.all.0 has there

  same : own.ways ≡ begun_if found ways a.code.now.start
  same =
      let rows = cells.rows.lists.items in
      let begun = begun_if found ways a.code.now.start in
      let source : HasRow rows row begun = subst (λ (r : ℕ). HasRow rows r begun) (sym rowed) (row_here rows found at.next at.begun a.code.now.start ways is.waits is.opens) in
      sym (row_ways rows row own.ways own.source) ∙ row_ways rows row begun source

  -- of which ways the match comes that is found
  pub comes_last : ComeFrom d.origin (length (begun_if found ways a.code.now.start)) d.came.items d.matched
  comes_last = subst (λ (ws : List ℕ). ComeFrom d.origin (length ws) d.came.items d.matched) same own.comes_from

  -- what was found after it is what is looked for
  pub last_step : (after : Option Span) → ((rest : Option (ℕ × ℕ)) → found_or after rest ≡ option_or (span_by (begun_if found starts at.place) (match_end d.matched at.place)) (found_or found rest))
      → IsGoal a (search_goal a) after
  last_step after hits deep begun =
      let p = at.place in
      let waits = begun_if found ways a.code.now.start in
      let step = step_alike (instrs_in a) waits like.whole (seen_in asked) own.after d.matched like.alike
      (subst (λ (ws : List ℕ). IsStep (instrs_in a) ws (seen_in asked) own.after d.matched) same own.step) in
      let moved = going_step a is.followed.steady is.followed.plain ways starts found after p like.whole own.after d.matched is.within is.good like.seen step
      (λ none. own.halts (like.ends none)) hits is.going in
      let r = seen_reaches a is.followed.steady p is.within is.good like.whole like.seen in
      let ends : place_after p like.whole.unit ≡ p + 1 = elim r.2 [
        | inl well ↦ absurd (omega (arith, r.0, well.1, over))
        | inr none ↦ ap (place_after p) none
      ] in
      let last = is.within in
      going_end a _ _ after (p + 1) deep (omega (arith, over)) (omega (arith, last)) begun
      (subst (λ (q : ℕ). Going a (map at_of own.after) (map (start_in (begun_if found starts p)) own.after) after (p + 1) q) ends moved)

  -- so it is where the step finds nothing
  pub last_quiet : d.matched ≡ None → IsGoal a (search_goal a) found
  last_quiet none = last_step found (λ rest. ap (λ (o : Option ℕ). option_or (span_by (begun_if found starts at.place) (match_end o at.place)) (found_or found rest)) (sym none))

  -- and where it finds a match
  pub last_found : (f s : ℕ) → d.matched ≡ Some f → slice_index (begun_if found starts at.place) f ≡ s → IsGoal a (search_goal a) (Some (record { start = s; end = at.place }))
  last_found f s some began =
      last_step (Some (record { start = s; end = at.place })) (λ rest. ap (λ (x : ℕ). Some (x, at.place)) (sym began)
      ∙ ap (λ (o : Option ℕ). option_or (span_by (begun_if found starts at.place) (match_end o at.place)) (found_or found rest)) (sym some))

-- where a way began that has this number, where all began at one place but the one that may begin there
pub began_earlier : (ways : List ℕ) (s start place f : ℕ) (end : Option ℕ) → f < length (begun_if (match_from s end) ways start) - 1
    → slice_index (begun_if (match_from s end) (replicate (length ways) s) place) f ≡ s
began_earlier ways s start place f None lt = earlier_began ways start s place f lt
began_earlier ways s start place f (Some e) lt = index_one (length ways) s f (omega (arith, lt))

pub began_last : (ways : List ℕ) (s start place f r : ℕ) (end : Option ℕ) → (end ≡ None → r ≡ place) → (is_some end ≡ true → r ≡ s)
    → 0 < length (begun_if (match_from s end) ways start) → f ≡ length (begun_if (match_from s end) ways start) - 1
    → slice_index (begun_if (match_from s end) (replicate (length ways) s) place) f ≡ r
began_last ways s start place f r None here before some e =
    last_began ways (replicate (length ways) s) start place f (length-replicate (length ways) s) e ∙ sym (here refl)
began_last ways s start place f r (Some end) here before some e = index_one (length ways) s f (omega (arith, some, e)) ∙ sym (before refl)
