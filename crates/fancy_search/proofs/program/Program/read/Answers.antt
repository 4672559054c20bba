use Rattle.std.proofs.Common.{ℕ, ◌+◌, ◌-◌, ◌∙◌, None, Some, true, ap, ap₂, arith, refl, replicate, sym}
use Rattle.fancy_code.specs.Code.{instrs_of}
use Rattle.fancy_code.specs.CodeLength.{code_len}
use Rattle.fancy_code.proofs.PositionLemmas.{positions_none}
use Rattle.fancy_meaning.proofs.AttemptLemmas.{search_over}
use Rattle.fancy_meaning.specs.Reading.{suppressed_ends}
use Rattle.fancy_meaning.specs.declared.options.SearchOptions.{SearchOptions}
use Rattle.fancy_meaning.specs.Search.{answer_from, context_of}
use Rattle.fancy_states.proofs.CountLemmas.{counts_more, counts_none}
use Rattle.fancy_search.specs.Programs.{asked_of, program_groups}
use Rattle.fancy_search.specs.Straight.{past_end}
use Rattle.fancy_search.proofs.SearchedLemmas.{nowhere}
use Rattle.fancy_search.proofs.StraightLemmas.{all_later, end_of, found_first, found_none, found_past, led_counts, led_on, none_on, of_end, passed_to, place_counts, reads, some_code, straight_of}
use Rattle.fancy_search.proofs.program.Program.read.Goals as goal

pub returns-then-first-request-clause-answer : goal.returns-then-first-request-clause-answer
returns-then-first-request-clause-answer c on =
    sym (search_over (asked_of c.args.self.now c.args.haystack.now c.args.request.now on) _ _ (positions_none c.args.request.now (omega (arith, c.effective_start-first.ensures, c.if-first-request.true))))

pub places-init : goal.places-init
places-init c = record {
  left = λ on.
      ap₂ (answer_from (asked_of c.args.self.now c.args.haystack.now c.args.request.now on)) (sym c.last_position-last.ensures.count ∙ ap (λ (n : ℕ). c.last_position-last.result + 1 - n) (sym c.effective_start-first.ensures)) (sym c.effective_start-first.ensures)
      ∙ passed_to c.args.self.now c.args.haystack.now c.args.request.now on (c.last_position-last.result + 1 - c.effective_start-first.result) (c.last_position-last.result + 1 - c.next_opening-place.result) c.effective_start-first.result c.next_opening-place.result c.requires.inside (λ k. omega (arith, c.type_inv.haystack k))
      c.next_opening-place.ensures.passed (omega (arith, c.next_opening-place.ensures.within, c.last_position-last.ensures.inside)) (omega (arith, c.next_opening-place.ensures.passed, c.next_opening-place.ensures.within)) c.next_opening-place.ensures.none;
  passed = c.next_opening-place.ensures.passed;
  within = c.next_opening-place.ensures.within;
  starts = λ le none. c.next_opening-place.ensures.some le (λ k low high. none k (omega (arith, low, c.effective_start-first.ensures)) (omega (arith, high, c.last_position-last.ensures.inside)));
  idle = λ none. refl;
  counts = counts_none _;
}

pub past_straight-past-requires : goal.past_straight-past-requires
past_straight-past-requires c = some_code c.args.self.now

pub returns-in-Some-clause-answer : goal.returns-in-Some-clause-answer
returns-in-Some-clause-answer c on =
    let q = asked_of c.args.self.now c.args.haystack.now c.args.request.now on in
    let e = end_of c.args.self.now c.requires.straight in
    let here = straight_of c.args.self.now c.args.haystack.now c.args.request.now on c.places.place c.past_straight-past.result c.requires.inside (omega (arith, c.places-test.true, c.last_position-last.ensures.inside)) c.requires.easy c.requires.straight c.requires.places c.suppressed_ends-suppressed.result (c.suppressed_ends-suppressed.ensures ∙ ap (λ (o : SearchOptions). suppressed_ends o.overrides c.args.request.now) c.args.self.now.handed) c.past_straight-past.ensures.read in
    let led = of_end _ _ e.0 e.1 (c.go_round.ensures.led (context_of q) (sym c.args.self.now.meant) refl) in
    sym (c.places.invariant.left on
    ∙ found_first q (c.last_position-last.result + 1 - c.places.place) (c.last_position-last.result + 1 - (c.places.place + 1)) c.places.place (omega (arith, c.places-test.true)) (replicate (program_groups c.args.self.now) None) (Some c.go_round.result) refl
    (here ∙ led_on q c.places.place (replicate (program_groups c.args.self.now) None) (past_end (context_of q) (instrs_of c.args.self.now.code) c.args.request.now.range_end e.0) c.past_straight-past.result c.in-Some.found c.go_round.result (c.in-Some.ensures c.args.request.now on refl) led))

pub returns-in-Some-clause-counts : goal.returns-in-Some-clause-counts
returns-in-Some-clause-counts c =
    let q = asked_of c.args.self.now c.args.haystack.now c.args.request.now true in
    let read = c.past_straight-past.ensures.read (context_of q) (reads c.args.self.now c.args.haystack.now c.args.request.now true c.suppressed_ends-suppressed.result (c.suppressed_ends-suppressed.ensures ∙ ap (λ (o : SearchOptions). suppressed_ends o.overrides c.args.request.now) c.args.self.now.handed)) in
    let later = all_later (context_of q) (instrs_of c.args.self.now.code) (code_len c.args.self.now.code - 2) c.args.self.now.code.start c.places.place c.in-Some.found.end
    (sym read ∙ found_past q c.places.place (replicate (program_groups c.args.self.now) None) c.past_straight-past.result c.in-Some.found (c.in-Some.ensures c.args.request.now true refl)) in
    let all = led_counts (code_len c.args.self.now.code) c.effective_start-first.result c.places.place c.in-Some.found.end c.args.request.now.range_end (some_code c.args.self.now) c.places.invariant.passed later (omega (arith, c.places-test.true, c.last_position-last.ensures.inside)) c.places.invariant.counts c.past_straight-past.ensures.counts c.go_round.ensures.counts in
    rw c.effective_start-first.ensures at all

pub returns-in-Some-clause-idle : goal.returns-in-Some-clause-idle
returns-in-Some-clause-idle c on none =
    nowhere c.args.self.now c.args.haystack.now c.args.request.now on _ _ (λ k. omega (arith, c.type_inv.haystack k)) none (λ nothing. absurd (c.places.invariant.starts (omega (arith, c.places-test.true)) nothing))

pub places-preserved : goal.places-preserved
places-preserved c = record {
  left = λ on.
      (let q = asked_of c.args.self.now c.args.haystack.now c.args.request.now on in
      let e = end_of c.args.self.now c.requires.straight in
      let here = straight_of c.args.self.now c.args.haystack.now c.args.request.now on c.places.place c.past_straight-past.result c.requires.inside (omega (arith, c.places-test.true, c.last_position-last.ensures.inside)) c.requires.easy c.requires.straight c.requires.places c.suppressed_ends-suppressed.result (c.suppressed_ends-suppressed.ensures ∙ ap (λ (o : SearchOptions). suppressed_ends o.overrides c.args.request.now) c.args.self.now.handed) c.past_straight-past.ensures.read in
      let none = rw c.in_default.is at (c.match_to.ensures c.args.request.now on refl) in
      c.places.invariant.left on
      ∙ found_none q (c.last_position-last.result + 1 - c.places.place) (c.last_position-last.result + 1 - (c.places.place + 1)) c.places.place (omega (arith, c.places-test.true)) (replicate (program_groups c.args.self.now) None) None refl
      (here ∙ none_on q c.places.place (past_end (context_of q) (instrs_of c.args.self.now.code) c.args.request.now.range_end e.0) c.past_straight-past.result none)
      ∙ passed_to c.args.self.now c.args.haystack.now c.args.request.now on (c.last_position-last.result + 1 - (c.places.place + 1)) (c.last_position-last.result + 1 - c.next_opening-place-in-places.result) (c.places.place + 1) c.next_opening-place-in-places.result c.requires.inside (λ k. omega (arith, c.type_inv.haystack k))
      c.next_opening-place-in-places.ensures.passed (omega (arith, c.next_opening-place-in-places.ensures.within, c.last_position-last.ensures.inside)) (omega (arith, c.next_opening-place-in-places.ensures.passed, c.next_opening-place-in-places.ensures.within, c.places-test.true)) c.next_opening-place-in-places.ensures.none);
  passed = omega (arith, c.places.invariant.passed, c.next_opening-place-in-places.ensures.passed);
  within = c.next_opening-place-in-places.ensures.within;
  starts = λ le none. c.places.invariant.starts (omega (arith, c.places-test.true)) none;
  idle = λ none. absurd (c.places.invariant.starts (omega (arith, c.places-test.true)) none);
  counts = counts_more (code_len c.args.self.now.code) c.effective_start-first.result c.places.place c.next_opening-place-in-places.result c.places.invariant.passed (omega (arith, c.next_opening-place-in-places.ensures.passed)) c.places.invariant.counts (place_counts (code_len c.args.self.now.code) c.past_straight-past.ensures.counts);
}

pub returns-clause-answer : goal.returns-clause-answer
returns-clause-answer c on =
    sym (c.places.invariant.left on ∙ search_over (asked_of c.args.self.now c.args.haystack.now c.args.request.now on) _ _ (omega (arith, c.places-test.false)))

pub returns-clause-idle : goal.returns-clause-idle
returns-clause-idle c on none =
    nowhere c.args.self.now c.args.haystack.now c.args.request.now on _ _ (λ k. omega (arith, c.type_inv.haystack k)) none c.places.invariant.idle
