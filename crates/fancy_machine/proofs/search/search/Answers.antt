use Rattle.std.proofs.Common.{refl, ◌≡◌, ◌<◌, ◌≤◌, ℕ, suc, ◌+◌, ◌-◌, ◌∙◌, Err, List, sym, ap, ap₂, subst, arith, slice_index, IfSome, Bool, true}
use Rattle.fancy_input.specs.LastLines.{KnowsLastLines}
use Rattle.fancy_input.specs.Requests.{positions, effective_start}
use Rattle.fancy_code.specs.declared.code.Code.{Code}
use Rattle.fancy_meaning.specs.declared.options.SearchOptions.{SearchOptions}
use Rattle.fancy_input.specs.Work.{IsWithin}
use Rattle.fancy_meaning.specs.Events.{marks_in, returns_in}
use Rattle.fancy_meaning.specs.Search.{answer_from, gone_from}
use Rattle.fancy_meaning.proofs.AttemptLemmas.{found_here, found_later}
use Rattle.fancy_code.proofs.PositionLemmas.{positions_none, positions_some}
use Rattle.fancy_meaning.proofs.AttemptLemmas.{search_over}
use Rattle.fancy_meaning.specs.Tried.{tried}
use Rattle.fancy_machine.proofs.MachineSearch.{asked_request, is_asked, gone_hit, gone_more, gone_counts, gone_over}
use Rattle.fancy_splits.specs.declared.splits.Splits.{Splits}
use Rattle.fancy_prices.specs.Entries.{AreEntries, IsToldAt, is_entry}
use Rattle.fancy_splits.specs.Front.{IsFront}
use Rattle.fancy_machine.proofs.SeekLemmas.{goes_on, tried_somewhere}
use Rattle.fancy_machine.proofs.AnswerLemmas.{keeps_none, keeps_on, limits_none, limits_ok, limits_err, answers_ok, answers_err}
use Rattle.fancy_machine.proofs.search.search.Goals as goal

pub returns-then-first-request-clause-answers : goal.returns-then-first-request-clause-answers
returns-then-first-request-clause-answers g c =
    let none = ap returns_in (gone_over g.q (tried c.args.asked.now.options.now.seek g.q) (positions g.q.request) (effective_start g.q.request)
    (ap positions (asked_request g.q g.q.sought.pattern c.args.asked.now.code.now c.args.asked.now.options.now c.args.haystack.now c.args.asked.now.request c.args.asked.now.continues c.requires.0.query) ∙ positions_none c.args.asked.now.request (omega (arith, c.effective_start-first.ensures)))) in
    answers_ok (sym (search_over g.q _ _ (ap positions (asked_request g.q g.q.sought.pattern c.args.asked.now.code.now c.args.asked.now.options.now c.args.haystack.now c.args.asked.now.request c.args.asked.now.continues c.requires.0.query) ∙ positions_none c.args.asked.now.request (omega (arith, c.effective_start-first.ensures)))))
    (omega (arith, none)) (omega arith) keeps_none (limits_none (omega arith))

pub loop-place-init : goal.loop-place-init
loop-place-init g c =
    let r = asked_request g.q g.q.sought.pattern c.args.asked.now.code.now c.args.asked.now.options.now c.args.haystack.now c.args.asked.now.request c.args.asked.now.continues c.requires.0.query in
    let tries : positions g.q.request ≡ c.last_position-last.result + 1 - c.effective_start-first.result = ap positions r ∙ sym c.last_position-last.ensures.count ∙ ap (λ (n : ℕ). c.last_position-last.result + 1 - n) (sym c.effective_start-first.ensures) in
    let first : effective_start g.q.request ≡ c.effective_start-first.result = ap effective_start r ∙ sym c.effective_start-first.ensures in
    let events = ap₂ (gone_from g.q (tried c.args.asked.now.options.now.seek g.q)) tries first in
    let ordered : c.effective_start-first.result ≤ c.last_position-last.result + 1 = omega (arith, c.last_position-last.ensures.count, c.effective_start-first.ensures, positions_some c.args.asked.now.request (omega (arith, c.effective_start-first.ensures))) in
    let on = goes_on g.q c.args.asked.now.code.now c.args.asked.now.options.now c.args.haystack.now c.args.asked.now.request c.args.asked.now.continues c.requires.0.query c.requires.0.code (λ k. omega (arith, c.type_inv.haystack k)) c.requires.0.inside (is_entry c.args.asked.now.prices.now.entries) c.requires.0.prices.entries c.effective_start-first.result c.last_position-last.result c.next-place.result ordered c.next-place.ensures.sought c.next-place.ensures.each in
    record {
      left = ap₂ (answer_from g.q) tries first ∙ on.answer;
      count = omega (arith, ap returns_in events, on.returns);
      room = omega (arith, ap marks_in events, on.marks);
      tries = on.tries;
      passed = omega (arith, c.next-place.ensures.passed, c.effective_start-first.ensures);
      idle = λ none. refl;
      fits = omega arith;
      counts = keeps_none;
      seen = record { lines = c.ready_last_lines.ensures; run = c.none-cache.ensures c.new-attempt.result.splits.now c.new-attempt.result.haystack.now };
      heeds = omega arith;
      within = λ is. is;
    }

pub ready_last_lines-requires : goal.ready_last_lines-requires
ready_last_lines-requires g c kept = subst (λ (h : List ℕ). KnowsLastLines h c.args.cache.now.seen.last_lines) (sym c.new-attempt.ensures.haystack) (c.requires.1.1 kept)

pub returns-in-Some-found-clause-kept : goal.returns-in-Some-found-clause-kept
returns-in-Some-found-clause-kept g c = subst (λ (h : List ℕ). KnowsLastLines h c.try_position.new.cache.seen.last_lines) c.new-attempt.ensures.haystack c.try_position.ensures.seen.lines

pub pass_priced-requires : goal.pass_priced-requires
pass_priced-requires g c =
    let k = is_asked g.q g.q.sought.pattern c.args.asked.now.code.now c.args.asked.now.options.now c.args.haystack.now c.args.asked.now.request c.args.asked.now.continues c.requires.0.query c.new-attempt.result c.new-attempt.ensures.code c.new-attempt.ensures.serves c.requires.0.code c.requires.0.inside c.loop-place.place (omega (arith, c.last_position-last.ensures.inside)) in
    let bytes = subst (λ (h : List ℕ). (k : ℕ) → slice_index h k < 256) (sym c.new-attempt.ensures.haystack) (λ k. omega (arith, c.type_inv.haystack k)) in
    let entries = subst (AreEntries (is_entry c.args.asked.now.prices.now.entries)) (sym c.new-attempt.ensures.code) c.requires.0.prices.entries in
    let told = subst (λ (h : List ℕ). IsToldAt (is_entry c.args.asked.now.prices.now.entries) h c.args.asked.now.request.range_end c.loop-place.place c.in-Some.price) (sym c.new-attempt.ensures.haystack) c.in-Some.ensures.told in
    let tries = c.loop-place.invariant.tries (omega (arith, c.loop-place-test.true)) in
    (k, (sym c.new-attempt.ensures.haystack, ((omega (arith, c.loop-place-test.true), omega (arith, c.last_position-last.ensures.inside)), ((λ e. subst (λ (b : Bool). tried b g.q c.loop-place.place ≡ true) e tries), (omega (arith, c.returns.ensures, c.loop-place.invariant.fits), (entries, (bytes, told)))))))

pub loop-place-preserved-in-Some : goal.loop-place-preserved-in-Some
loop-place-preserved-in-Some g c =
    let past = c.in_ok-on.ensures.passed.1 in
    let on = goes_on g.q c.args.asked.now.code.now c.args.asked.now.options.now c.args.haystack.now c.args.asked.now.request c.args.asked.now.continues c.requires.0.query c.requires.0.code (λ k. omega (arith, c.type_inv.haystack k)) c.requires.0.inside (is_entry c.args.asked.now.prices.now.entries) c.requires.0.prices.entries c.in_ok-on.on c.last_position-last.result c.next-place-in-Some.result past.within c.next-place-in-Some.ensures.sought c.next-place-in-Some.ensures.each in
    record {
      left = c.loop-place.invariant.left ∙ past.answer ∙ on.answer;
      count = omega (arith, c.loop-place.invariant.count, past.count, c.pass_priced.ensures.counts.returns, on.returns);
      room = omega (arith, c.loop-place.invariant.room, past.marks, on.marks);
      tries = on.tries;
      passed = omega (arith, c.next-place-in-Some.ensures.passed, past.passed, c.loop-place.invariant.passed);
      idle = λ none. absurd (tried_somewhere g.q c.args.asked.now.options.now.seek c.args.asked.now.request c.loop-place.place (asked_request g.q g.q.sought.pattern c.args.asked.now.code.now c.args.asked.now.options.now c.args.haystack.now c.args.asked.now.request c.args.asked.now.continues c.requires.0.query) none c.loop-place.invariant.passed (omega (arith, c.loop-place-test.true, c.last_position-last.ensures.inside)) (c.loop-place.invariant.tries (omega (arith, c.loop-place-test.true))));
      fits = omega (arith, c.returns.ensures, c.pass_priced.ensures.heeds.fits);
      counts = keeps_on c.loop-place.invariant.counts c.pass_priced.ensures.counts;
      seen = c.loop-place.invariant.seen;
      heeds = c.loop-place.invariant.heeds;
      within = λ is. subst (λ (o : SearchOptions). IsWithin o.step_limit c.pass_priced.new.work) c.new-attempt.ensures.options
          (c.pass_priced.ensures.heeds.within (subst (λ (o : SearchOptions). IsWithin o.step_limit c.loop-place.work) (sym c.new-attempt.ensures.options) (c.loop-place.invariant.within is)));
    }

pub try_position-requires : goal.try_position-requires
try_position-requires g c =
    (is_asked g.q g.q.sought.pattern c.args.asked.now.code.now c.args.asked.now.options.now c.args.haystack.now c.args.asked.now.request c.args.asked.now.continues c.requires.0.query c.new-attempt.result c.new-attempt.ensures.code c.new-attempt.ensures.serves c.requires.0.code c.requires.0.inside c.loop-place.place (omega (arith, c.last_position-last.ensures.inside)), record { room = omega (arith, c.returns.ensures, c.loop-place.invariant.fits); seen = c.loop-place.invariant.seen })

pub pass_run-requires : goal.pass_run-requires
pass_run-requires g c =
    let k = is_asked g.q g.q.sought.pattern c.args.asked.now.code.now c.args.asked.now.options.now c.args.haystack.now c.args.asked.now.request c.args.asked.now.continues c.requires.0.query c.new-attempt.result c.new-attempt.ensures.code c.new-attempt.ensures.serves c.requires.0.code c.requires.0.inside c.loop-place.place (omega (arith, c.last_position-last.ensures.inside)) in
    let of_splits = subst (λ (l : Splits). IfSome c.args.asked.now.prices.now.front (IsFront l c.args.asked.now.code.now c.args.asked.now.code.now.start)) (sym c.new-attempt.ensures.splits) c.requires.0.prices.front in
    let front = subst (λ (o : Code). IfSome c.args.asked.now.prices.now.front (IsFront c.new-attempt.result.splits.now o o.start)) (sym c.new-attempt.ensures.code) of_splits in
    (k.serves, (k.coded, (omega (arith, c.last_position-last.ensures.inside, k.range), (k.inside, (omega (arith, c.loop-place-test.true), (record { room = c.try_position.ensures.answers.limits.fits; seen = c.try_position.ensures.seen }, front))))))

pub returns-in_err-on-clause-answers : goal.returns-in_err-on-clause-answers
returns-in_err-on-clause-answers g c =
    let limits = rw (c.new-attempt.ensures.options, c.returns.ensures) at c.in_err-on.ensures.heeds in
    answers_err c.from_residual.result _ c.from_residual.ensures.1 (omega (arith, c.pass_priced.ensures.bounded, c.loop-place.invariant.count))
    (λ is. let lt = c.in_err-on.ensures.refused (ap Err is) in omega (arith, lt, c.returns.ensures, c.loop-place.invariant.count))
    (λ is. absurd (c.in_err-on.ensures.saved (ap Err is)))
    c.loop-place.invariant.heeds (keeps_on c.loop-place.invariant.counts c.pass_priced.ensures.counts)
    (limits_err c.from_residual.result _ c.from_residual.ensures.1 c.loop-place.invariant.within refl limits)

pub returns-in_err-found-clause-answers : goal.returns-in_err-found-clause-answers
returns-in_err-found-clause-answers g c =
    let one : (c.last_position-last.result + 1 - c.loop-place.place) ≡ suc (c.last_position-last.result + 1 - (c.loop-place.place + 1)) = omega (arith, c.loop-place-test.true) in
    let more = gone_more g.q (tried c.args.asked.now.options.now.seek g.q) (c.last_position-last.result + 1 - c.loop-place.place) (c.last_position-last.result + 1 - (c.loop-place.place + 1)) c.loop-place.place one (c.loop-place.invariant.tries (omega (arith, c.loop-place-test.true))) in
    let limits = rw (c.new-attempt.ensures.options, c.returns.ensures) at c.in_err-found.ensures.answers.limits in
    answers_err c.from_residual-in_err-found.result _ c.from_residual-in_err-found.ensures.1 (omega (arith, c.try_position.ensures.answers.bounded, more.0, c.loop-place.invariant.count))
    (λ is. let lt = c.in_err-found.ensures.answers.refused (ap Err is) in omega (arith, lt, more.0, c.returns.ensures, c.loop-place.invariant.count))
    (λ is. let lt = c.in_err-found.ensures.answers.crowded (ap Err is) in omega (arith, lt, more.1, c.loop-place.invariant.room, ap (λ o. o.stack_limit) c.new-attempt.ensures.options))
    (omega (arith, c.try_position.ensures.answers.heeds, c.loop-place.invariant.heeds, ap (λ o. o.stack_limit) c.new-attempt.ensures.options)) (keeps_on c.loop-place.invariant.counts c.try_position.ensures.answers.counts)
    (limits_err c.from_residual-in_err-found.result _ c.from_residual-in_err-found.ensures.1 c.loop-place.invariant.within refl limits)

pub returns-in_err-from-clause-answers : goal.returns-in_err-from-clause-answers
returns-in_err-from-clause-answers g c =
    let one : (c.last_position-last.result + 1 - c.loop-place.place) ≡ suc (c.last_position-last.result + 1 - (c.loop-place.place + 1)) = omega (arith, c.loop-place-test.true) in
    let a = rw c.in_default-found.is at c.in_ok-found.ensures.answers.answer in
    let counts = gone_counts g.q (tried c.args.asked.now.options.now.seek g.q) (c.last_position-last.result + 1 - c.loop-place.place) (c.last_position-last.result + 1 - (c.loop-place.place + 1)) c.loop-place.place one (c.loop-place.invariant.tries (omega (arith, c.loop-place-test.true))) (sym a) in
    let first = rw (c.new-attempt.ensures.options, c.returns.ensures) at c.try_position.ensures.answers.limits in
    let limits = rw (c.new-attempt.ensures.options, c.returns.ensures) at c.in_err-from.ensures.heeds in
    answers_err c.from_residual-in_err-from.result _ c.from_residual-in_err-from.ensures.1 (omega (arith, c.pass_run.ensures.bounded, counts.0, c.in_ok-found.ensures.answers.count, c.loop-place.invariant.count))
    (λ is. let lt = c.in_err-from.ensures.refused (ap Err is) in omega (arith, lt, counts.0, c.in_ok-found.ensures.answers.count, c.returns.ensures, c.loop-place.invariant.count))
    (λ is. absurd (c.in_err-from.ensures.saved (ap Err is)))
    (omega (arith, c.try_position.ensures.answers.heeds, c.loop-place.invariant.heeds, ap (λ o. o.stack_limit) c.new-attempt.ensures.options)) (keeps_on (keeps_on c.loop-place.invariant.counts c.try_position.ensures.answers.counts) c.pass_run.ensures.counts)
    (limits_err c.from_residual-in_err-from.result _ c.from_residual-in_err-from.ensures.1 (λ is. first.within (c.loop-place.invariant.within is)) refl limits)

pub returns-in-Some-found-clause-answers : goal.returns-in-Some-found-clause-answers
returns-in-Some-found-clause-answers g c =
    let one : (c.last_position-last.result + 1 - c.loop-place.place) ≡ suc (c.last_position-last.result + 1 - (c.loop-place.place + 1)) = omega (arith, c.loop-place-test.true) in
    let a = rw c.in-Some-found.is at c.in_ok-found.ensures.answers.answer in
    let through = gone_hit g.q (tried c.args.asked.now.options.now.seek g.q) (c.last_position-last.result + 1 - c.loop-place.place) (c.last_position-last.result + 1 - (c.loop-place.place + 1)) c.loop-place.place one (c.loop-place.invariant.tries (omega (arith, c.loop-place-test.true))) _ (sym a) in
    let limits = rw (c.new-attempt.ensures.options, c.returns.ensures) at c.try_position.ensures.answers.limits in
    answers_ok (sym (c.loop-place.invariant.left ∙ found_here g.q (c.last_position-last.result + 1 - c.loop-place.place) (c.last_position-last.result + 1 - (c.loop-place.place + 1)) c.loop-place.place one _ (sym a)))
    (omega (arith, c.in_ok-found.ensures.answers.count, ap returns_in through, c.loop-place.invariant.count))
    (omega (arith, c.try_position.ensures.answers.heeds, c.loop-place.invariant.heeds, ap (λ o. o.stack_limit) c.new-attempt.ensures.options)) (keeps_on c.loop-place.invariant.counts c.try_position.ensures.answers.counts) (limits_ok c.loop-place.invariant.within limits)

pub loop-place-preserved : goal.loop-place-preserved
loop-place-preserved g c =
    let one : (c.last_position-last.result + 1 - c.loop-place.place) ≡ suc (c.last_position-last.result + 1 - (c.loop-place.place + 1)) = omega (arith, c.loop-place-test.true) in
    let a = rw c.in_default-found.is at c.in_ok-found.ensures.answers.answer in
    let counts = gone_counts g.q (tried c.args.asked.now.options.now.seek g.q) (c.last_position-last.result + 1 - c.loop-place.place) (c.last_position-last.result + 1 - (c.loop-place.place + 1)) c.loop-place.place one (c.loop-place.invariant.tries (omega (arith, c.loop-place-test.true))) (sym a) in
    let past = c.in_ok-from.ensures.passed in
    let on = goes_on g.q c.args.asked.now.code.now c.args.asked.now.options.now c.args.haystack.now c.args.asked.now.request c.args.asked.now.continues c.requires.0.query c.requires.0.code (λ k. omega (arith, c.type_inv.haystack k)) c.requires.0.inside (is_entry c.args.asked.now.prices.now.entries) c.requires.0.prices.entries c.in_ok-from.from c.last_position-last.result c.next-place-in-loop-place.result past.within c.next-place-in-loop-place.ensures.sought c.next-place-in-loop-place.ensures.each in
    record {
      left = c.loop-place.invariant.left ∙ found_later g.q (c.last_position-last.result + 1 - c.loop-place.place) (c.last_position-last.result + 1 - (c.loop-place.place + 1)) c.loop-place.place one (sym a) ∙ past.answer ∙ on.answer;
      count = omega (arith, c.in_ok-found.ensures.answers.count, counts.0, c.loop-place.invariant.count, past.count, c.pass_run.ensures.counts.returns, on.returns);
      room = omega (arith, counts.1, c.loop-place.invariant.room, past.marks, on.marks);
      tries = on.tries;
      passed = omega (arith, c.next-place-in-loop-place.ensures.passed, past.passed, c.loop-place.invariant.passed);
      idle = λ none. absurd (tried_somewhere g.q c.args.asked.now.options.now.seek c.args.asked.now.request c.loop-place.place (asked_request g.q g.q.sought.pattern c.args.asked.now.code.now c.args.asked.now.options.now c.args.haystack.now c.args.asked.now.request c.args.asked.now.continues c.requires.0.query) none c.loop-place.invariant.passed (omega (arith, c.loop-place-test.true, c.last_position-last.ensures.inside)) (c.loop-place.invariant.tries (omega (arith, c.loop-place-test.true))));
      fits = omega (arith, c.returns.ensures, c.pass_run.ensures.heeds.fits);
      counts = keeps_on (keeps_on c.loop-place.invariant.counts c.try_position.ensures.answers.counts) c.pass_run.ensures.counts;
      seen = c.try_position.ensures.seen;
      heeds = omega (arith, c.try_position.ensures.answers.heeds, c.loop-place.invariant.heeds, ap (λ o. o.stack_limit) c.new-attempt.ensures.options);
      within = λ is. subst (λ (o : SearchOptions). IsWithin o.step_limit c.pass_run.new.work) c.new-attempt.ensures.options
          (c.pass_run.ensures.heeds.within (c.try_position.ensures.answers.limits.within (subst (λ (o : SearchOptions). IsWithin o.step_limit c.loop-place.work) (sym c.new-attempt.ensures.options) (c.loop-place.invariant.within is))));
    }

pub returns-clause-answers : goal.returns-clause-answers
returns-clause-answers g c =
    answers_ok (sym (c.loop-place.invariant.left ∙ search_over g.q _ _ (omega arith)))
    (omega (arith, c.loop-place.invariant.count, ap returns_in (gone_over g.q (tried c.args.asked.now.options.now.seek g.q) (c.last_position-last.result + 1 - c.loop-place.place) c.loop-place.place (omega arith))))
    c.loop-place.invariant.heeds c.loop-place.invariant.counts
    (record { stopped = λ e. absurd (cc); fits = c.loop-place.invariant.fits; within = c.loop-place.invariant.within; limited = λ e. absurd (cc) })

pub returns-in_err-found-clause-idle : goal.returns-in_err-found-clause-idle
returns-in_err-found-clause-idle g c none = absurd (tried_somewhere g.q c.args.asked.now.options.now.seek c.args.asked.now.request c.loop-place.place (asked_request g.q g.q.sought.pattern c.args.asked.now.code.now c.args.asked.now.options.now c.args.haystack.now c.args.asked.now.request c.args.asked.now.continues c.requires.0.query) none c.loop-place.invariant.passed (omega (arith, c.loop-place-test.true, c.last_position-last.ensures.inside)) (c.loop-place.invariant.tries (omega (arith, c.loop-place-test.true))))

pub returns-in-Some-found-clause-idle : goal.returns-in-Some-found-clause-idle
returns-in-Some-found-clause-idle g c none = absurd (tried_somewhere g.q c.args.asked.now.options.now.seek c.args.asked.now.request c.loop-place.place (asked_request g.q g.q.sought.pattern c.args.asked.now.code.now c.args.asked.now.options.now c.args.haystack.now c.args.asked.now.request c.args.asked.now.continues c.requires.0.query) none c.loop-place.invariant.passed (omega (arith, c.loop-place-test.true, c.last_position-last.ensures.inside)) (c.loop-place.invariant.tries (omega (arith, c.loop-place-test.true))))
