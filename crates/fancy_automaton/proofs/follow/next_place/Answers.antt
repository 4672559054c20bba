use Rattle.std.proofs.Common.{◌∙◌, arith, sym}
use Rattle.fancy_prefilter.proofs.NextLemmas.{next_first}
use Rattle.fancy_automaton.proofs.PlaceLemmas.{next_place, passed_on}
use Rattle.fancy_automaton.proofs.follow.next_place.Goals as goal
use Rattle.fancy_automaton.proofs.follow.next_place.Goals.{then-place-last-via-then-place-last, then-place-last-via-else-place-last+then-is_match_boundary}

pub returns-then-place-last : goal.returns-then-place-last
returns-then-place-last c =
    let past = c.places.invariant in
    next_place c.args.attempt.now c.args.from c.places.place c.next_candidate-place.result past.forth past.passed (next_first _ _ _ _ _ _ c.next_candidate-place.ensures)
    (λ le. elim c.then-place-last.branch [
      | then-place-last-via-then-place-last w ↦ absurd (omega (arith, le, w.if-place-last.true))
      | then-place-last-via-else-place-last+then-is_match_boundary w ↦ sym w.is_match_boundary.ensures ∙ w.if-is_match_boundary.true
    ])

pub places-preserved : goal.places-preserved
places-preserved c =
    let past = c.places.invariant in
    record {
      forth = omega (arith, past.forth, c.next_candidate-place.ensures.passed);
      ends = omega (arith, c.if-place-last.false);
      passed = passed_on c.args.attempt.now c.args.from c.places.place c.next_candidate-place.result past.forth past.passed (next_first _ _ _ _ _ _ c.next_candidate-place.ensures)
          (sym c.is_match_boundary.ensures ∙ c.if-is_match_boundary.false);
    }
