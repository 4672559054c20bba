use Rattle.std.proofs.Common.{◌≡◌, ◌∙◌, ◌++◌, List, [], ℕ, drop, refl, sym, ap, arith, map}
use Rattle.fancy_regex.specs.declared.Regex.{Regex}
use Rattle.fancy_regex.specs.declared.Request.{Request as Asked}
use Rattle.fancy_regex.specs.Iterations.{next_request}
use Rattle.fancy_regex.specs.MatchList.{MatchItem}
use Rattle.fancy_regex.specs.Spans.{span_in_bytes}
use Rattle.fancy_regex_c.specs.declared.plain.Span.{Span}
use Rattle.fancy_regex_c.specs.Handed.{handed_bytes, is_handed_text}
use Rattle.fancy_regex_c.specs.Lists.{span_that, spans_told, spans_listed, is_given, is_full, is_ended, is_refused}
use Rattle.fancy_regex_c.proofs.ListLemmas.{end_is_short, refused_ahead, allowed_ahead, none_left_ahead, stands_next, gives_next, goes_more}
use Rattle.fancy_regex_c.proofs.lists.find_all_in.Goals as goal

-- the spans of matches, whatever the regex
abbrev told : Regex → List MatchItem → List Span
told regex items = spans_told items

pub loop-index-init : goal.loop-index-init
loop-index-init c =
    let e = c.resume_matches-list.ensures in
    let i = c.in-Ok.ensures in
    record {
      written = refl;
      stands = record {
        of_regex = e.regex;
        of_haystack = e.text ∙ i.haystack;
        of_request = e.request ∙ i.request;
        onward = e.onward ∙ c.onward.ensures;
        unended = e.goes_on;
      };
      goes = record { given = []; gives = refl; counted = refl; put = refl };
    }

pub loop-index-preserved : goal.loop-index-preserved
loop-index-preserved c =
    let inv = c.loop-index.invariant in
    let regex = c.args.regex.now in
    let h = c.args.haystack in
    let steps = rw c.in-Some-Ok.field-0-is at c.in-Some-Ok.ensures.steps in
    let gives = steps.answers in
    let m = c.loop-index.list in
    let t = c.next.new.self in
    let at = c.loop-index.request in
    let after = c.go_on.new.self in
    let x = span_that (span_in_bytes c.in-Some-Ok.found) in
    let start : c.start.result ≡ (next_request t).start = c.start.ensures ∙ ap (λ (q : Asked). q.start) c.input.ensures.request in
    let onward = c.go_on.ensures.onward ∙ c.onward-in-Some-Ok.ensures.onward in
    let item = gives_next m t regex h at after inv.stands steps.same gives.goes_on c.start.result start c.go_on.ensures.moved onward told x (ap (map span_that) gives.first) gives.allowed in
    record {
      written = refl;
      stands = stands_next m t regex h at after inv.stands steps.same gives.goes_on c.start.result start c.go_on.ensures.moved onward;
      goes = rw c.span_of.ensures (goes_more (spans_listed regex (is_handed_text h) (handed_bytes h)) c.args.request.now at after c.args.spans.now c.loop-index.spans c.loop-index.index x item c.loop-index-test.true inv.goes);
    }

pub returns-in-Some-Err-clause-told : goal.returns-in-Some-Err-clause-told
returns-in-Some-Err-clause-told c =
    let inv = c.loop-index.invariant in
    let steps = rw c.in-Some-Err.field-0-is at c.in-Some-Err.ensures.steps in
    let refused = refused_ahead told c.loop-index.list c.args.regex.now c.args.haystack c.loop-index.request inv.stands c.in-Some-Err.error steps.answers.refused in
    is_given c.in-Ok.ensures.place inv.goes.given inv.goes.gives
    (inv.goes.put ∙ ap (λ (n : ℕ). inv.goes.given ++ drop n c.args.spans.now) (sym inv.goes.counted)) (inv.written ∙ sym inv.goes.counted)
    (is_refused (c.in-Some-Err.error, c.answer_of.ensures.value, refused))

pub returns-in-None-clause-told : goal.returns-in-None-clause-told
returns-in-None-clause-told c =
    let inv = c.loop-index.invariant in
    let ends = c.in-None.ensures.steps.answers in
    let m = c.loop-index.list in
    let at = c.loop-index.request in
    is_given c.in-Ok.ensures.place inv.goes.given inv.goes.gives
    (inv.goes.put ∙ ap (λ (n : ℕ). inv.goes.given ++ drop n c.args.spans.now) (sym inv.goes.counted)) (inv.written ∙ sym inv.goes.counted)
    (is_ended refl (allowed_ahead told m c.args.regex.now c.args.haystack at inv.stands ends.allowed) (none_left_ahead told m c.args.regex.now c.args.haystack at inv.stands ends.none refl))

pub returns-clause-told : goal.returns-clause-told
returns-clause-told c =
    let inv = c.loop-index.invariant in
    let past = c.loop-index-test.false in
    let within = c.loop-index.auto.index-end in
    let written = inv.written in
    is_given c.in-Ok.ensures.place inv.goes.given inv.goes.gives
    (inv.goes.put ∙ ap (λ (n : ℕ). inv.goes.given ++ drop n c.args.spans.now) (sym inv.goes.counted)) (inv.written ∙ sym inv.goes.counted)
    (is_full refl (omega (arith, past, within, written)))

pub returns-in-Some-Err-clause-short : goal.returns-in-Some-Err-clause-short
returns-in-Some-Err-clause-short c = λ other. end_is_short c.loop-index.list c.args.regex.now c.args.haystack c.loop-index.request c.loop-index.invariant.stands

pub returns-in-None-clause-short : goal.returns-in-None-clause-short
returns-in-None-clause-short c = λ other. end_is_short c.loop-index.list c.args.regex.now c.args.haystack c.loop-index.request c.loop-index.invariant.stands

pub returns-clause-short : goal.returns-clause-short
returns-clause-short c = λ other. end_is_short c.loop-index.list c.args.regex.now c.args.haystack c.loop-index.request c.loop-index.invariant.stands
