use Rattle.std.proofs.Common.{◌+◌, ◌-◌, ◌≤◌, ℕ, true, Some, length, sym, refl, ap, ap₂, ◌∙◌, arith}
use Rattle.std.specs.Prelude.{Option, is_some}
use Rattle.fancy_input.specs.Requests.{effective_start, positions}
use Rattle.fancy_runner.specs.declared.notes.KeptTable.{KeptTable}
use Rattle.fancy_meaning.specs.declared.reading.SuppressedEnds.{SuppressedEnds}
use Rattle.fancy_code.specs.Code.{instrs_of, due_of, owed_of}
use Rattle.fancy_code.specs.Queries.{query_of, unfiltered}
use Rattle.fancy_meaning.specs.Reading.{search_context}
use Rattle.fancy_meaning.specs.Search.{answer_from, is_match_boundary}
use Rattle.fancy_input.specs.Work.{steps_of}
use Rattle.fancy_code.specs.Compile.{depth}
use Rattle.fancy_runner.specs.KeptTable.{table_in, marks_from, base_of, steps_ahead}
use Rattle.fancy_code.proofs.MarkingLemmas.{later_starts}
use Rattle.fancy_runner.proofs.KeptTableLemmas.{failed_later, told_later, kept_begins, kept_reached, kept_room, kept_small, kept_last_lines, kept_failed, kept_after, ahead_ready, ahead_after, fewer_ahead, again_paid}
use Rattle.fancy_code.proofs.PositionLemmas.{deep, attempt_known, attempt_answer, search_skip, positions_none, first_thread}
use Rattle.fancy_meaning.proofs.AttemptLemmas.{search_hit, search_miss, search_over}
use Rattle.fancy_code.proofs.PassedLemmas.{openings_passed}
use Rattle.fancy_input.proofs.WorkLemmas.{runs_on}
use Rattle.fancy_runner.proofs.RunLemmas.{worked_none, worked_now}
use Rattle.fancy_runner.specs.declared.notes.Cache.{Cache}
use Rattle.fancy_runner.proofs.FirstItemLemmas.{followed_passed}
use Rattle.fancy_runner.proofs.LimitLemmas.{runs_heeded}
use Rattle.fancy_runner.proofs.search.search.Goals as goal
use Rattle.fancy_runner.proofs.search.search.Goals.{then-is_match_boundary+in_ok-end+in_default, else-is_match_boundary, then-loop-place-test+else-not-leaves_off, else-loop-place-test}

pub returns-then-first-request-clause-answer : goal.returns-then-first-request-clause-answer
returns-then-first-request-clause-answer c p on is =
    rw c.nothing.ensures (
    search_over (query_of p c.args.code.now (unfiltered c.args.wanted.options) c.args.haystack.now c.args.wanted.request on) _ _ (omega (arith, c.effective_start-first.ensures, positions_none c.args.wanted.request (omega (arith, c.effective_start-first.ensures))))
    ∙ sym (search_over (query_of p c.args.code.now (unfiltered c.args.wanted.options) c.args.haystack.now c.args.wanted.request on) _ _ (positions_none c.args.wanted.request (omega (arith, c.effective_start-first.ensures)))))

pub returns-then-place-last-clause-answer : goal.returns-then-place-last-clause-answer
returns-then-place-last-clause-answer c p on is =
    rw c.nothing-then-place-last.ensures (
    search_over (query_of p c.args.code.now (unfiltered c.args.wanted.options) c.args.haystack.now c.args.wanted.request on) _ _ (omega (arith, c.effective_start-first.ensures, c.last_position-last.ensures.count))
    ∙ sym (ap₂ (answer_from (query_of p c.args.code.now (unfiltered c.args.wanted.options) c.args.haystack.now c.args.wanted.request on)) (sym c.last_position-last.ensures.count ∙ ap (λ (n : ℕ). c.last_position-last.result + 1 - n) (sym c.effective_start-first.ensures)) (sym c.effective_start-first.ensures)
    ∙ openings_passed (query_of p c.args.code.now (unfiltered c.args.wanted.options) c.args.haystack.now c.args.wanted.request on) c.args.code.now is refl c.requires.inside (λ k. omega (arith, c.type_inv.haystack k)) (c.last_position-last.result + 1 - c.effective_start-first.result) (0) c.effective_start-first.result c.next_opening-place.result c.next_opening-place.ensures.passed (omega (arith, c.next_opening-place.ensures.within, c.last_position-last.ensures.inside)) (omega (arith, c.next_opening-place.ensures.within, c.next_opening-place.ensures.passed)) c.next_opening-place.ensures.none
    ∙ search_over (query_of p c.args.code.now (unfiltered c.args.wanted.options) c.args.haystack.now c.args.wanted.request on) 0 _ refl))

pub loop-place-init : goal.loop-place-init
loop-place-init c =
    let based : c.base-base.result ≤ c.effective_start-first.result = kept_begins c.args.code.now c.args.haystack.now c.args.wanted.request c.args.wanted.options c.effective_start-first.result c.base-base.result c.suppressed_ends.result c.effective_start-first.ensures c.suppressed_ends.ensures c.args.kept.now c.args.cache.now.notes c.requires.kept (c.base-base.ensures ∙ ap (λ (o : Option KeptTable). base_of o c.effective_start-first.result) c.take-before.ensures.value) in
    record {
      left = λ p on is.
          ap₂ (answer_from (query_of p c.args.code.now (unfiltered c.args.wanted.options) c.args.haystack.now c.args.wanted.request on)) (sym c.last_position-last.ensures.count ∙ ap (λ (n : ℕ). c.last_position-last.result + 1 - n) (sym c.effective_start-first.ensures)) (sym c.effective_start-first.ensures)
          ∙ openings_passed (query_of p c.args.code.now (unfiltered c.args.wanted.options) c.args.haystack.now c.args.wanted.request on) c.args.code.now is refl c.requires.inside (λ k. omega (arith, c.type_inv.haystack k)) (c.last_position-last.result + 1 - c.effective_start-first.result) (c.last_position-last.result + 1 - c.next_opening-place.result) c.effective_start-first.result c.next_opening-place.result c.next_opening-place.ensures.passed (omega (arith, c.next_opening-place.ensures.within, c.last_position-last.ensures.inside)) (omega (arith, c.next_opening-place.ensures.passed, c.next_opening-place.ensures.within)) c.next_opening-place.ensures.none;
      begins = omega (arith, c.next_opening-place.ensures.passed, based);
      passed = c.next_opening-place.ensures.passed;
      within = c.next_opening-place.ensures.within;
      dropped = c.take-before.ensures.after;
      starts = λ le none. c.next_opening-place.ensures.some le (λ k low high. none k (omega (arith, low, c.effective_start-first.ensures)) (omega (arith, high, c.last_position-last.ensures.inside)));
      idle = λ none. refl;
      failed = λ p is.
          failed_later (is_match_boundary c.args.wanted.options.on_boundaries c.args.haystack.now) (search_context c.args.haystack.now c.args.code.now.meaning c.suppressed_ends.result c.base-base.result) c.effective_start-first.result c.next_opening-place.result c.args.wanted.request.range_end (instrs_of c.args.code.now) (depth (length c.args.haystack.now) p + 1) (marks_from c.args.code.now c.base-base.result c.ready_table.new.table) c.next_opening-place.ensures.passed
          (c.in_ok-ready_table.ensures.failed (depth (length c.args.haystack.now) p + 1) (rw c.take-before.ensures.value (kept_failed c.args.code.now c.args.haystack.now c.args.wanted.request c.args.wanted.options c.effective_start-first.result c.base-base.result c.suppressed_ends.result c.effective_start-first.ensures c.suppressed_ends.ensures c.args.kept.now c.args.cache.now.notes c.requires.kept (c.base-base.ensures ∙ ap (λ (o : Option KeptTable). base_of o c.effective_start-first.result) c.take-before.ensures.value) p is)));
      room = c.in_ok-ready_table.ensures.room;
      small = c.in_ok-ready_table.ensures.small;
      spent = omega (arith, ahead_ready c.args.code.now c.args.haystack.now c.args.wanted.request c.args.wanted.options c.effective_start-first.result c.base-base.result c.suppressed_ends.result c.effective_start-first.ensures c.suppressed_ends.ensures c.args.kept.now (table_in c.args.cache.now) c.ready_table.new.table (c.args.wanted.request.range_end + 1 - c.next_opening-place.result) (c.base-base.ensures ∙ ap (λ (o : Option KeptTable). base_of o c.effective_start-first.result) c.take-before.ensures.value) (omega (arith, c.if-first-request.false)) (omega (arith, c.next_opening-place.ensures.passed)) (rw c.take-before.ensures.value at c.in_ok-ready_table.ensures.left));
      worked = worked_none c.ready_last_lines.ensures;
    }

pub returns-in-Some-clause-answer : goal.returns-in-Some-clause-answer
returns-in-Some-clause-answer c p on is =
    rw c.at.ensures (
    let known = attempt_known (query_of p c.args.code.now (unfiltered c.args.wanted.options) c.args.haystack.now c.args.wanted.request on) c.args.code.now is refl refl refl refl c.requires.inside (search_context c.args.haystack.now c.args.code.now.meaning c.suppressed_ends.result c.base-base.result) (Some c.base-base.result) (ap (λ (s : SuppressedEnds). search_context c.args.haystack.now c.args.code.now.meaning s c.base-base.result) c.suppressed_ends.ensures) c.requires.easy c.loop-place.place (first_thread c.args.code.now c.loop-place.place) refl (omega (arith, c.last_position-last.ensures.inside, c.loop-place-test.true)) in
    let is_answer = attempt_answer (query_of p c.args.code.now (unfiltered c.args.wanted.options) c.args.haystack.now c.args.wanted.request on) c.args.code.now is refl refl refl refl c.requires.inside (search_context c.args.haystack.now c.args.code.now.meaning c.suppressed_ends.result c.base-base.result) (Some c.base-base.result) (ap (λ (s : SuppressedEnds). search_context c.args.haystack.now c.args.code.now.meaning s c.base-base.result) c.suppressed_ends.ensures) c.requires.easy c.loop-place.place (first_thread c.args.code.now c.loop-place.place) refl (omega (arith, c.last_position-last.ensures.inside, c.loop-place-test.true)) (sym c.is_match_boundary.ensures ∙ c.if-is_match_boundary.true) in
    let found = rw c.in-Some.is at (c.in_ok-end.ensures.answer (λ k. omega (arith, c.type_inv.haystack k)) is.branched c.loop-place.place (deep (query_of p c.args.code.now (unfiltered c.args.wanted.options) c.args.haystack.now c.args.wanted.request on) c.args.code.now is refl refl refl refl c.requires.inside (search_context c.args.haystack.now c.args.code.now.meaning c.suppressed_ends.result c.base-base.result) (Some c.base-base.result) (ap (λ (s : SuppressedEnds). search_context c.args.haystack.now c.args.code.now.meaning s c.base-base.result) c.suppressed_ends.ensures))) in
    (sym (c.loop-place.invariant.left p on is
    ∙ search_hit (query_of p c.args.code.now (unfiltered c.args.wanted.options) c.args.haystack.now c.args.wanted.request on) (c.last_position-last.result + 1 - c.loop-place.place) (c.last_position-last.result + 1 - (c.loop-place.place + 1)) c.loop-place.place (omega (arith, c.loop-place-test.true)) _ (sym is_answer ∙ sym (found known (c.loop-place.invariant.failed p is))))))

pub loop-place-preserved : goal.loop-place-preserved
loop-place-preserved c =
    elim c.if-is_match_boundary.branch [
      | then-is_match_boundary+in_ok-end+in_default w ↦ record {
        left = λ p on is.
            (let is_answer = attempt_answer (query_of p c.args.code.now (unfiltered c.args.wanted.options) c.args.haystack.now c.args.wanted.request on) c.args.code.now is refl refl refl refl c.requires.inside (search_context c.args.haystack.now c.args.code.now.meaning c.suppressed_ends.result c.base-base.result) (Some c.base-base.result) (ap (λ (s : SuppressedEnds). search_context c.args.haystack.now c.args.code.now.meaning s c.base-base.result) c.suppressed_ends.ensures) c.requires.easy c.loop-place.place (first_thread c.args.code.now c.loop-place.place) refl (omega (arith, c.last_position-last.ensures.inside, c.loop-place-test.true)) (sym c.is_match_boundary.ensures ∙ w.if-is_match_boundary.true) in
            let found = rw w.in_default.is at (w.in_ok-end.ensures.answer (λ k. omega (arith, c.type_inv.haystack k)) is.branched c.loop-place.place (deep (query_of p c.args.code.now (unfiltered c.args.wanted.options) c.args.haystack.now c.args.wanted.request on) c.args.code.now is refl refl refl refl c.requires.inside (search_context c.args.haystack.now c.args.code.now.meaning c.suppressed_ends.result c.base-base.result) (Some c.base-base.result) (ap (λ (s : SuppressedEnds). search_context c.args.haystack.now c.args.code.now.meaning s c.base-base.result) c.suppressed_ends.ensures))) in
            c.loop-place.invariant.left p on is
            ∙ search_miss (query_of p c.args.code.now (unfiltered c.args.wanted.options) c.args.haystack.now c.args.wanted.request on) (c.last_position-last.result + 1 - c.loop-place.place) (c.last_position-last.result + 1 - (c.loop-place.place + 1)) c.loop-place.place (omega (arith, c.loop-place-test.true)) (sym is_answer ∙ sym (found (attempt_known (query_of p c.args.code.now (unfiltered c.args.wanted.options) c.args.haystack.now c.args.wanted.request on) c.args.code.now is refl refl refl refl c.requires.inside (search_context c.args.haystack.now c.args.code.now.meaning c.suppressed_ends.result c.base-base.result) (Some c.base-base.result) (ap (λ (s : SuppressedEnds). search_context c.args.haystack.now c.args.code.now.meaning s c.base-base.result) c.suppressed_ends.ensures) c.requires.easy c.loop-place.place (first_thread c.args.code.now c.loop-place.place) refl (omega (arith, c.last_position-last.ensures.inside, c.loop-place-test.true))) (c.loop-place.invariant.failed p is)))
            ∙ followed_passed c.args.code c.args.haystack c.args.wanted.request c.args.wanted.options c.base-base.result c.suppressed_ends.result c.limit_to_heed.result p on is c.requires.inside c.requires.easy (ap (λ (s : SuppressedEnds). search_context c.args.haystack.now c.args.code.now.meaning s c.base-base.result) c.suppressed_ends.ensures)
            c.if-is_match_boundary.cache.notes.table c.loop-place.place (c.last_position-last.result + 1 - (c.loop-place.place + 1)) (c.last_position-last.result + 1 - c.pass_followed-from.result) (c.loop-place.place + 1) c.pass_followed-from.result (omega arith) c.pass_followed-from.ensures.passed (omega (arith, c.pass_followed-from.ensures.within, c.last_position-last.ensures.inside)) (omega (arith, c.pass_followed-from.ensures.passed, c.pass_followed-from.ensures.within, c.loop-place-test.true))
            (rw w.cache-is ((rw w.in_default.is at w.in_ok-end.ensures.left) is.branched c.loop-place.place (deep (query_of p c.args.code.now (unfiltered c.args.wanted.options) c.args.haystack.now c.args.wanted.request true) c.args.code.now is refl refl refl refl c.requires.inside (search_context c.args.haystack.now c.args.code.now.meaning c.suppressed_ends.result c.base-base.result) (Some c.base-base.result) (ap (λ (s : SuppressedEnds). search_context c.args.haystack.now c.args.code.now.meaning s c.base-base.result) c.suppressed_ends.ensures)) (attempt_known (query_of p c.args.code.now (unfiltered c.args.wanted.options) c.args.haystack.now c.args.wanted.request true) c.args.code.now is refl refl refl refl c.requires.inside (search_context c.args.haystack.now c.args.code.now.meaning c.suppressed_ends.result c.base-base.result) (Some c.base-base.result) (ap (λ (s : SuppressedEnds). search_context c.args.haystack.now c.args.code.now.meaning s c.base-base.result) c.suppressed_ends.ensures) c.requires.easy c.loop-place.place (first_thread c.args.code.now c.loop-place.place) refl (omega (arith, c.last_position-last.ensures.inside, c.loop-place-test.true))) (c.loop-place.invariant.failed p is))) c.pass_followed-from.ensures.none
            ∙ openings_passed (query_of p c.args.code.now (unfiltered c.args.wanted.options) c.args.haystack.now c.args.wanted.request on) c.args.code.now is refl c.requires.inside (λ k. omega (arith, c.type_inv.haystack k)) (c.last_position-last.result + 1 - c.pass_followed-from.result) (c.last_position-last.result + 1 - c.next_opening-place-in-loop-place.result) c.pass_followed-from.result c.next_opening-place-in-loop-place.result c.next_opening-place-in-loop-place.ensures.passed (omega (arith, c.next_opening-place-in-loop-place.ensures.within, c.last_position-last.ensures.inside)) (omega (arith, c.next_opening-place-in-loop-place.ensures.passed, c.next_opening-place-in-loop-place.ensures.within, c.pass_followed-from.ensures.within)) c.next_opening-place-in-loop-place.ensures.none);
        begins = omega (arith, c.loop-place.invariant.begins, c.pass_followed-from.ensures.passed, c.next_opening-place-in-loop-place.ensures.passed);
        passed = omega (arith, c.loop-place.invariant.passed, c.pass_followed-from.ensures.passed, c.next_opening-place-in-loop-place.ensures.passed);
        within = c.next_opening-place-in-loop-place.ensures.within;
        dropped = c.loop-place.invariant.dropped;
        starts = λ le none. c.loop-place.invariant.starts (omega (arith, c.loop-place-test.true)) none;
        idle = λ none. absurd (c.loop-place.invariant.starts (omega (arith, c.loop-place-test.true)) none);
        failed = λ p is.
            rw w.cache-is
            (failed_later (is_match_boundary c.args.wanted.options.on_boundaries c.args.haystack.now) (search_context c.args.haystack.now c.args.code.now.meaning c.suppressed_ends.result c.base-base.result) c.loop-place.place c.next_opening-place-in-loop-place.result c.args.wanted.request.range_end (instrs_of c.args.code.now) (depth (length c.args.haystack.now) p + 1) (marks_from c.args.code.now c.base-base.result w.follow_start.new.cache.notes.table) (omega (arith, c.pass_followed-from.ensures.passed, c.next_opening-place-in-loop-place.ensures.passed))
            ((rw w.in_default.is at w.in_ok-end.ensures.left) is.branched c.loop-place.place (deep (query_of p c.args.code.now (unfiltered c.args.wanted.options) c.args.haystack.now c.args.wanted.request true) c.args.code.now is refl refl refl refl c.requires.inside (search_context c.args.haystack.now c.args.code.now.meaning c.suppressed_ends.result c.base-base.result) (Some c.base-base.result) (ap (λ (s : SuppressedEnds). search_context c.args.haystack.now c.args.code.now.meaning s c.base-base.result) c.suppressed_ends.ensures)) (attempt_known (query_of p c.args.code.now (unfiltered c.args.wanted.options) c.args.haystack.now c.args.wanted.request true) c.args.code.now is refl refl refl refl c.requires.inside (search_context c.args.haystack.now c.args.code.now.meaning c.suppressed_ends.result c.base-base.result) (Some c.base-base.result) (ap (λ (s : SuppressedEnds). search_context c.args.haystack.now c.args.code.now.meaning s c.base-base.result) c.suppressed_ends.ensures) c.requires.easy c.loop-place.place (first_thread c.args.code.now c.loop-place.place) refl (omega (arith, c.last_position-last.ensures.inside, c.loop-place-test.true))) (c.loop-place.invariant.failed p is)));
        room = ap (λ (x : Cache). length x.notes.table) w.cache-is ∙ w.follow_start.ensures.attempted.ran.worked.room ∙ c.loop-place.invariant.room;
        small = omega (arith, ap (λ (x : Cache). length x.notes.table) w.cache-is, w.follow_start.ensures.attempted.ran.worked.room, c.loop-place.invariant.small);
        spent = (let fewer = later_starts (c.args.wanted.request.range_end + 1 - c.loop-place.place) (c.args.wanted.request.range_end + 1 - c.next_opening-place-in-loop-place.result) (due_of c.args.code.now c.args.code.now.start) (omega (arith, c.pass_followed-from.ensures.passed, c.next_opening-place-in-loop-place.ensures.passed, c.loop-place-test.true, c.last_position-last.ensures.inside)) in
            omega (arith, ap (owed_of c.args.code.now (c.args.wanted.request.range_end - c.base-base.result + 1)) (ap table_in w.cache-is), ap steps_of w.work-is, w.follow_start.ensures.attempted.ran.paid, fewer, c.loop-place.invariant.spent));
        worked = worked_now (ap (λ (x : Cache). x.notes) w.cache-is) w.work-is c.loop-place.invariant.worked w.follow_start.ensures.attempted.ran.worked;
      }
      | else-is_match_boundary w ↦ record {
        left = λ p on is.
            c.loop-place.invariant.left p on is
            ∙ search_miss (query_of p c.args.code.now (unfiltered c.args.wanted.options) c.args.haystack.now c.args.wanted.request on) (c.last_position-last.result + 1 - c.loop-place.place) (c.last_position-last.result + 1 - (c.loop-place.place + 1)) c.loop-place.place (omega (arith, c.loop-place-test.true)) (search_skip (query_of p c.args.code.now (unfiltered c.args.wanted.options) c.args.haystack.now c.args.wanted.request on) c.loop-place.place refl (sym c.is_match_boundary.ensures ∙ w.if-is_match_boundary.false))
            ∙ followed_passed c.args.code c.args.haystack c.args.wanted.request c.args.wanted.options c.base-base.result c.suppressed_ends.result c.limit_to_heed.result p on is c.requires.inside c.requires.easy (ap (λ (s : SuppressedEnds). search_context c.args.haystack.now c.args.code.now.meaning s c.base-base.result) c.suppressed_ends.ensures)
            c.if-is_match_boundary.cache.notes.table c.loop-place.place (c.last_position-last.result + 1 - (c.loop-place.place + 1)) (c.last_position-last.result + 1 - c.pass_followed-from.result) (c.loop-place.place + 1) c.pass_followed-from.result (omega arith) c.pass_followed-from.ensures.passed (omega (arith, c.pass_followed-from.ensures.within, c.last_position-last.ensures.inside)) (omega (arith, c.pass_followed-from.ensures.passed, c.pass_followed-from.ensures.within, c.loop-place-test.true))
            (rw w.cache-is (c.loop-place.invariant.failed p is)) c.pass_followed-from.ensures.none
            ∙ openings_passed (query_of p c.args.code.now (unfiltered c.args.wanted.options) c.args.haystack.now c.args.wanted.request on) c.args.code.now is refl c.requires.inside (λ k. omega (arith, c.type_inv.haystack k)) (c.last_position-last.result + 1 - c.pass_followed-from.result) (c.last_position-last.result + 1 - c.next_opening-place-in-loop-place.result) c.pass_followed-from.result c.next_opening-place-in-loop-place.result c.next_opening-place-in-loop-place.ensures.passed (omega (arith, c.next_opening-place-in-loop-place.ensures.within, c.last_position-last.ensures.inside)) (omega (arith, c.next_opening-place-in-loop-place.ensures.passed, c.next_opening-place-in-loop-place.ensures.within, c.pass_followed-from.ensures.within)) c.next_opening-place-in-loop-place.ensures.none;
        begins = omega (arith, c.loop-place.invariant.begins, c.pass_followed-from.ensures.passed, c.next_opening-place-in-loop-place.ensures.passed);
        passed = omega (arith, c.loop-place.invariant.passed, c.pass_followed-from.ensures.passed, c.next_opening-place-in-loop-place.ensures.passed);
        within = c.next_opening-place-in-loop-place.ensures.within;
        dropped = c.loop-place.invariant.dropped;
        starts = λ le none. c.loop-place.invariant.starts (omega (arith, c.loop-place-test.true)) none;
        idle = λ none. absurd (c.loop-place.invariant.starts (omega (arith, c.loop-place-test.true)) none);
        failed = λ p is.
            rw w.cache-is
            (failed_later (is_match_boundary c.args.wanted.options.on_boundaries c.args.haystack.now) (search_context c.args.haystack.now c.args.code.now.meaning c.suppressed_ends.result c.base-base.result) c.loop-place.place c.next_opening-place-in-loop-place.result c.args.wanted.request.range_end (instrs_of c.args.code.now) (depth (length c.args.haystack.now) p + 1) (marks_from c.args.code.now c.base-base.result c.loop-place.cache.notes.table) (omega (arith, c.pass_followed-from.ensures.passed, c.next_opening-place-in-loop-place.ensures.passed)) (c.loop-place.invariant.failed p is));
        room = ap (λ (x : Cache). length x.notes.table) w.cache-is ∙ c.loop-place.invariant.room;
        small = omega (arith, ap (λ (x : Cache). length x.notes.table) w.cache-is, c.loop-place.invariant.small);
        spent = (let fewer = later_starts (c.args.wanted.request.range_end + 1 - c.loop-place.place) (c.args.wanted.request.range_end + 1 - c.next_opening-place-in-loop-place.result) (due_of c.args.code.now c.args.code.now.start) (omega (arith, c.pass_followed-from.ensures.passed, c.next_opening-place-in-loop-place.ensures.passed, c.loop-place-test.true, c.last_position-last.ensures.inside)) in
            omega (arith, ap (owed_of c.args.code.now (c.args.wanted.request.range_end - c.base-base.result + 1)) (ap table_in w.cache-is), ap steps_of w.work-is, fewer, c.loop-place.invariant.spent));
        worked = worked_now (ap (λ (x : Cache). x.notes) w.cache-is) w.work-is c.loop-place.invariant.worked (worked_none c.loop-place.invariant.worked.last_lines);
      }
    ]

pub returns-then-first-request-clause-ended : goal.returns-then-first-request-clause-ended
returns-then-first-request-clause-ended c alone =
    rw c.nothing.ensures (
    omega (arith, c.effective_start-first.ensures, positions_none c.args.wanted.request (omega (arith, c.effective_start-first.ensures))))

pub returns-then-place-last-clause-ended : goal.returns-then-place-last-clause-ended
returns-then-place-last-clause-ended c alone =
    rw c.nothing-then-place-last.ensures (
    omega (arith, c.effective_start-first.ensures, c.last_position-last.ensures.count))

pub returns-then-first-request-clause-left_off : goal.returns-then-first-request-clause-left_off
returns-then-first-request-clause-left_off c =
    rw c.nothing.ensures (λ early. absurd (omega (arith, early, c.effective_start-first.ensures, positions_none c.args.wanted.request (omega (arith, c.effective_start-first.ensures)))))

pub returns-then-place-last-clause-left_off : goal.returns-then-place-last-clause-left_off
returns-then-place-last-clause-left_off c =
    rw c.nothing-then-place-last.ensures (λ early. absurd (omega (arith, early, c.effective_start-first.ensures, c.last_position-last.ensures.count)))

pub ready_table-requires-clause-begins : goal.ready_table-requires-clause-begins
ready_table-requires-clause-begins c = kept_begins c.args.code.now c.args.haystack.now c.args.wanted.request c.args.wanted.options c.effective_start-first.result c.base-base.result c.suppressed_ends.result c.effective_start-first.ensures c.suppressed_ends.ensures c.args.kept.now c.args.cache.now.notes c.requires.kept (c.base-base.ensures ∙ ap (λ (o : Option KeptTable). base_of o c.effective_start-first.result) c.take-before.ensures.value)

pub ready_table-requires-clause-reached : goal.ready_table-requires-clause-reached
ready_table-requires-clause-reached c = rw c.take-before.ensures.value (kept_reached c.args.code.now c.args.haystack.now c.args.wanted.request c.args.wanted.options c.effective_start-first.result c.base-base.result c.suppressed_ends.result c.effective_start-first.ensures c.suppressed_ends.ensures c.args.kept.now c.args.cache.now.notes c.requires.kept)

pub ready_table-requires-clause-room : goal.ready_table-requires-clause-room
ready_table-requires-clause-room c = rw c.take-before.ensures.value (kept_room c.args.code.now c.args.haystack.now c.args.wanted.request c.args.wanted.options c.effective_start-first.result c.base-base.result c.suppressed_ends.result c.effective_start-first.ensures c.suppressed_ends.ensures c.args.kept.now c.args.cache.now.notes c.requires.kept (c.base-base.ensures ∙ ap (λ (o : Option KeptTable). base_of o c.effective_start-first.result) c.take-before.ensures.value))

pub ready_table-requires-clause-short : goal.ready_table-requires-clause-short
ready_table-requires-clause-short c = rw c.take-before.ensures.value (kept_small c.args.code.now c.args.haystack.now c.args.wanted.request c.args.wanted.options c.effective_start-first.result c.base-base.result c.suppressed_ends.result c.effective_start-first.ensures c.suppressed_ends.ensures c.args.kept.now c.args.cache.now.notes c.requires.kept)

pub ready_last_lines-requires : goal.ready_last_lines-requires
ready_last_lines-requires c some = kept_last_lines c.args.code.now c.args.haystack.now c.args.wanted.request c.args.wanted.options c.effective_start-first.result c.base-base.result c.suppressed_ends.result c.effective_start-first.ensures c.suppressed_ends.ensures c.args.kept.now c.args.cache.now.notes c.requires.kept (ap is_some (sym c.take-before.ensures.value) ∙ sym c.is_some.ensures ∙ some)

pub returns-in_err-end-clause-bounded : goal.returns-in_err-end-clause-bounded
returns-in_err-end-clause-bounded c =
    let fewer = later_starts (c.args.wanted.request.range_end + 1 - c.loop-place.place) (c.args.wanted.request.range_end + 1 - (c.loop-place.place + 1)) (due_of c.args.code.now c.args.code.now.start) (omega (arith, c.loop-place-test.true, c.last_position-last.ensures.inside)) in
    omega (arith, c.follow_start.ensures.attempted.ran.paid, fewer, c.loop-place.invariant.spent)

pub returns-in-Some-clause-bounded : goal.returns-in-Some-clause-bounded
returns-in-Some-clause-bounded c =
    let fewer = later_starts (c.args.wanted.request.range_end + 1 - c.loop-place.place) (c.args.wanted.request.range_end + 1 - (c.loop-place.place + 1)) (due_of c.args.code.now c.args.code.now.start) (omega (arith, c.loop-place-test.true, c.last_position-last.ensures.inside)) in
    omega (arith, c.follow_start.ensures.attempted.ran.paid, fewer, c.loop-place.invariant.spent)

pub returns-in-Some-clause-spent : goal.returns-in-Some-clause-spent
returns-in-Some-clause-spent c =
    rw c.at.ensures (
    let after = ahead_after c.args.code.now c.args.haystack.now c.args.wanted.request c.args.wanted.options c.effective_start-first.result c.base-base.result c.suppressed_ends.result c.effective_start-first.ensures c.suppressed_ends.ensures c.loop-place.place c.in-Some.end c.follow_start.new.cache.notes.table ((rw c.in-Some.is at c.in_ok-end.ensures.attempted.ends).0) in
    let same = ap (λ (b : ℕ). steps_ahead c.args.code.now c.args.wanted.request b c.in-Some.end c.follow_start.new.cache.notes.table) ((c.base-base.ensures ∙ ap (λ (o : Option KeptTable). base_of o c.effective_start-first.result) c.take-before.ensures.value) ∙ ap (base_of c.args.kept.now) c.effective_start-first.ensures) in
    omega (arith, after, same, c.follow_start.ensures.attempted.ran.paid, c.loop-place.invariant.spent, again_paid c.args.kept.now c.args.code.now (effective_start c.args.wanted.request)))

pub returns-then-first-request-clause-passed : goal.returns-then-first-request-clause-passed
returns-then-first-request-clause-passed c =
    rw c.nothing.ensures (
    omega (arith, fewer_ahead c.args.kept.now c.args.code.now c.args.wanted.request (effective_start c.args.wanted.request) (effective_start c.args.wanted.request + positions c.args.wanted.request) (table_in c.args.cache.now) (omega arith)))

pub returns-then-place-last-clause-passed : goal.returns-then-place-last-clause-passed
returns-then-place-last-clause-passed c =
    rw c.nothing-then-place-last.ensures (
    omega (arith, fewer_ahead c.args.kept.now c.args.code.now c.args.wanted.request (effective_start c.args.wanted.request) (effective_start c.args.wanted.request + positions c.args.wanted.request) (table_in c.args.cache.now) (omega arith)))

pub returns-then-first-request-clause-kept : goal.returns-then-first-request-clause-kept
returns-then-first-request-clause-kept c =
    rw c.nothing.ensures (
    told_later c.args.code.now c.args.haystack.now c.args.wanted.request c.args.wanted.options c.args.kept.now (effective_start c.args.wanted.request) (effective_start c.args.wanted.request + (positions c.args.wanted.request - 1)) c.args.cache.now.notes (omega arith) c.requires.kept)

pub returns-then-place-last-clause-kept : goal.returns-then-place-last-clause-kept
returns-then-place-last-clause-kept c =
    rw c.nothing-then-place-last.ensures (
    told_later c.args.code.now c.args.haystack.now c.args.wanted.request c.args.wanted.options c.args.kept.now (effective_start c.args.wanted.request) (effective_start c.args.wanted.request + (positions c.args.wanted.request - 1)) c.args.cache.now.notes (omega arith) c.requires.kept)

pub returns-clause-kept : goal.returns-clause-kept
returns-clause-kept c =
    rw c.nothing-2.ensures (
    let based : c.base-base.result ≤ c.effective_start-first.result = kept_begins c.args.code.now c.args.haystack.now c.args.wanted.request c.args.wanted.options c.effective_start-first.result c.base-base.result c.suppressed_ends.result c.effective_start-first.ensures c.suppressed_ends.ensures c.args.kept.now c.args.cache.now.notes c.requires.kept (c.base-base.ensures ∙ ap (λ (o : Option KeptTable). base_of o c.effective_start-first.result) c.take-before.ensures.value) in
    kept_after c.args.code.now c.args.haystack.now c.args.wanted.request c.args.wanted.options c.effective_start-first.result c.base-base.result c.suppressed_ends.result c.effective_start-first.ensures c.suppressed_ends.ensures c.args.kept.now c.loop-place.place (effective_start c.args.wanted.request + (positions c.args.wanted.request - 1)) _ (c.base-base.ensures ∙ ap (λ (o : Option KeptTable). base_of o c.effective_start-first.result) c.take-before.ensures.value) (omega (arith, based, c.effective_start-first.ensures)) (omega (arith, c.loop-place.invariant.within, c.last_position-last.ensures.count))
    c.loop-place.invariant.room c.loop-place.invariant.small c.loop-place.invariant.failed c.loop-place.invariant.worked.last_lines)

pub returns-in-Some-clause-left : goal.returns-in-Some-clause-left
returns-in-Some-clause-left c =
    rw c.at.ensures (
    ap (λ (b : ℕ). Some (record { base = b; from = c.in-Some.end + 1 })) ((c.base-base.ensures ∙ ap (λ (o : Option KeptTable). base_of o c.effective_start-first.result) c.take-before.ensures.value) ∙ ap (base_of c.args.kept.now) c.effective_start-first.ensures))

pub returns-in-Some-clause-kept : goal.returns-in-Some-clause-kept
returns-in-Some-clause-kept c =
    rw c.at.ensures (
    kept_after c.args.code.now c.args.haystack.now c.args.wanted.request c.args.wanted.options c.effective_start-first.result c.base-base.result c.suppressed_ends.result c.effective_start-first.ensures c.suppressed_ends.ensures c.args.kept.now (c.in-Some.end + 1) c.in-Some.end _ (c.base-base.ensures ∙ ap (λ (o : Option KeptTable). base_of o c.effective_start-first.result) c.take-before.ensures.value) (omega (arith, c.loop-place.invariant.begins, (rw c.in-Some.is at c.in_ok-end.ensures.attempted.ends).0)) (omega arith)
    (c.follow_start.ensures.attempted.ran.worked.room ∙ c.loop-place.invariant.room)
    (omega (arith, c.follow_start.ensures.attempted.ran.worked.room, c.loop-place.invariant.small))
    (λ p is q i seen hit. (rw c.in-Some.is at c.in_ok-end.ensures.left) is.branched c.loop-place.place (depth (length c.args.haystack.now) p + 1)
    (attempt_known (query_of p c.args.code.now (unfiltered c.args.wanted.options) c.args.haystack.now c.args.wanted.request true) c.args.code.now is refl refl refl refl c.requires.inside (search_context c.args.haystack.now c.args.code.now.meaning c.suppressed_ends.result c.base-base.result) (Some c.base-base.result) (ap (λ (s : SuppressedEnds). search_context c.args.haystack.now c.args.code.now.meaning s c.base-base.result) c.suppressed_ends.ensures) c.requires.easy c.loop-place.place (first_thread c.args.code.now c.loop-place.place) refl (omega (arith, c.last_position-last.ensures.inside, c.loop-place-test.true))) (c.loop-place.invariant.failed p is)
    q i ((seen.0.0, omega (arith, seen.0.1, (rw c.in-Some.is at c.in_ok-end.ensures.attempted.ends).0), seen.0.2), seen.1) (omega (arith, seen.0.1)) hit)
    c.follow_start.ensures.attempted.ran.worked.last_lines)

pub returns-in_err-end-clause-idle : goal.returns-in_err-end-clause-idle
returns-in_err-end-clause-idle c none = absurd (c.loop-place.invariant.starts (omega (arith, c.loop-place-test.true)) none)

pub returns-in-Some-clause-idle : goal.returns-in-Some-clause-idle
returns-in-Some-clause-idle c none = absurd (c.loop-place.invariant.starts (omega (arith, c.loop-place-test.true)) none)

pub returns-in_err-end-clause-heeds : goal.returns-in_err-end-clause-heeds
returns-in_err-end-clause-heeds c = runs_heeded _ _ _ _ c.args.code.now c.args.wanted.request _ c.take-before.ensures.value c.limit_to_heed.ensures.limit (table_in c.args.cache.now) _ (runs_on _ _ _ _ c.loop-place.invariant.worked.heeds c.follow_start.ensures.attempted.ran.worked.heeds) (returns-in_err-end-clause-bounded c)

pub returns-in-Some-clause-heeds : goal.returns-in-Some-clause-heeds
returns-in-Some-clause-heeds c = runs_heeded _ _ _ _ c.args.code.now c.args.wanted.request _ c.take-before.ensures.value c.limit_to_heed.ensures.limit (table_in c.args.cache.now) _ (runs_on _ _ _ _ c.loop-place.invariant.worked.heeds c.follow_start.ensures.attempted.ran.worked.heeds) (returns-in-Some-clause-bounded c)

pub follow_start-requires : goal.follow_start-requires
follow_start-requires c = record {
  ready = record {
    ready = record {
      inside = c.requires.inside;
      easy = c.requires.easy;
      room = omega (arith, c.loop-place.invariant.room);
      small = c.loop-place.invariant.small;
      last_lines = c.loop-place.invariant.worked.last_lines;
    };
    low = c.loop-place.invariant.begins;
    high = omega (arith, c.last_position-last.ensures.inside, c.loop-place-test.true);
  };
}

pub returns-clause-answer : goal.returns-clause-answer
returns-clause-answer c p on is =
    rw c.nothing-2.ensures (
    ap (λ (n : ℕ). answer_from (query_of p c.args.code.now (unfiltered c.args.wanted.options) c.args.haystack.now c.args.wanted.request on) n c.loop-place.place) (omega (arith, c.effective_start-first.ensures, c.last_position-last.ensures.count, c.loop-place.invariant.passed, c.loop-place.invariant.within))
    ∙ sym (c.loop-place.invariant.left p on is))

pub returns-clause-left_off : goal.returns-clause-left_off
returns-clause-left_off c =
    rw c.nothing-2.ensures (λ early.
    elim c.loop-place-test.branch [
      | then-loop-place-test+else-not-leaves_off w ↦ record {
        enough = rw (w.steps.ensures, c.steps-begun.ensures) at (w.leaves_off.ensures.enough w.if-not-leaves_off.false);
        paid = omega (arith, w.leaves_off.ensures.paid w.if-not-leaves_off.false, w.steps.ensures, c.steps-begun.ensures);
        starts = c.loop-place.invariant.starts (omega (arith, w.loop-place-test.true));
      }
      | else-loop-place-test w ↦ absurd (omega (arith, early, w.loop-place-test.false, c.effective_start-first.ensures, c.last_position-last.ensures.count))
    ])

pub returns-clause-passed : goal.returns-clause-passed
returns-clause-passed c =
    rw c.nothing-2.ensures (
    let after = ahead_after c.args.code.now c.args.haystack.now c.args.wanted.request c.args.wanted.options c.effective_start-first.result c.base-base.result c.suppressed_ends.result c.effective_start-first.ensures c.suppressed_ends.ensures c.loop-place.place (effective_start c.args.wanted.request + positions c.args.wanted.request) c.loop-place.cache.notes.table (omega (arith, c.loop-place.invariant.within, c.last_position-last.ensures.count)) in
    omega (arith, after, c.loop-place.invariant.spent))
