use Rattle.std.proofs.Common.{◌≡◌, ◌∙◌, ◌++◌, ◌+◌, ◌-◌, List, [], ℕ, Option, length, take, drop, refl, sym, ap, subst, arith, map}
use borrow.Rule.Slice.PartMut.{put_mid}
use Rattle.fancy_regex.specs.declared.Regex.{Regex}
use Rattle.fancy_regex.specs.declared.Request.{Request as Asked}
use Rattle.fancy_regex.specs.declared.Span.{Span as Found}
use Rattle.fancy_regex.specs.CaptureIterations.{matches_in}
use Rattle.fancy_regex.specs.Captures.{spans_in}
use Rattle.fancy_regex.specs.Iterations.{regex_in, next_request}
use Rattle.fancy_regex.specs.MatchList.{MatchItem}
use Rattle.fancy_regex.specs.Regexes.{group_count_in}
use Rattle.fancy_regex.proofs.SetLemmas.{some_group}
use Rattle.fancy_regex_c.specs.declared.plain.Span.{Span}
use Rattle.fancy_regex_c.specs.Handed.{handed_bytes, is_handed_text}
use Rattle.fancy_regex_c.specs.Lists.{rows_told, rows_listed, joined, is_given, is_full, is_ended, is_refused}
use Rattle.fancy_regex_c.specs.Searches.{crossing}
use Rattle.fancy_regex_c.proofs.ListLemmas.{end_is_short, refused_ahead, allowed_ahead, none_left_ahead, stands_next, gives_next}
use Rattle.fancy_regex_c.proofs.RowLemmas.{RowsGo, row_fits, row_is, first_long, rows_go_more}
use Rattle.fancy_regex_c.proofs.lists.captures_all_in.Goals as goal

-- the groups of matches, of as many groups as the regex has
abbrev told : Regex → List MatchItem → List (List Span)
told regex items = rows_told (group_count_in regex) items

pub rows-init : goal.rows-init
rows-init c =
    let e = c.resume_captures-list.ensures in
    let i = c.in-Ok.ensures in
    record {
      inside = omega arith;
      fewer = omega arith;
      stands = record {
        of_regex = e.regex;
        of_haystack = e.text ∙ i.haystack;
        of_request = e.request ∙ i.request;
        onward = e.onward ∙ c.onward.ensures;
        unended = e.goes_on;
      };
      goes = record { given = []; gives = refl; each = tt; counted = refl; filled = refl; put = refl };
    }

pub rows-preserved : goal.rows-preserved
rows-preserved c =
    let inv = c.rows.invariant in
    let regex = c.args.regex.now in
    let h = c.args.haystack in
    let w = group_count_in regex in
    let width : c.captures_len-width.result ≡ w = c.captures_len-width.ensures in
    let steps = rw c.in-Some-Ok.field-0-is at c.in-Some-Ok.ensures.steps in
    let gives = steps.answers in
    let m = matches_in c.rows.list in
    let t = matches_in c.next.new.self in
    let at = c.rows.request in
    let after = c.go_on.new.self in
    let used = c.rows.used in
    let end = used + c.captures_len-width.result in
    let now = c.rows.groups in
    let row = c.put_groups.new.groups in
    let groups = spans_in c.in-Some-Ok.captures in
    let fits = row_fits used c.captures_len-width.result now row inv.inside c.rows-test.true c.put_groups.auto.groups in
    let counted : length groups ≡ w = first_long (group_count_in (regex_in m)) _ groups _ gives.first ∙ ap group_count_in inv.stands.of_regex in
    let is : row ≡ map crossing groups = row_is groups row (fits.long ∙ (width ∙ sym counted)) c.put_groups.ensures in
    let start : c.start.result ≡ (next_request t).start = c.start.ensures ∙ ap (λ (q : Asked). q.start) c.input.ensures.request in
    let onward = c.go_on.ensures.onward ∙ c.onward-in-Some-Ok.ensures.onward in
    let item = gives_next m t regex h at after inv.stands steps.same gives.goes_on c.start.result start c.go_on.ensures.moved onward told (map crossing groups)
    (ap (λ (rows : List (List (Option Found))). map (λ (spans : List (Option Found)). map crossing spans) rows) gives.first) gives.allowed in
    let goes = rows_go_more w (rows_listed regex (is_handed_text h) (handed_bytes h)) c.args.request.now at after c.args.groups.now now (put_mid used (end - used) now row) used c.rows.written (map crossing groups)
    item (sym (ap length is) ∙ (fits.long ∙ width)) (fits.put ∙ (ap (λ (z : List Span). take used now ++ (z ++ drop end now)) is ∙ ap (λ (n : ℕ). take used now ++ (map crossing groups ++ drop (used + n) now)) width)) inv.goes in
    let some = some_group regex in
    let fewer = inv.fewer in
    record {
      inside = fits.inside;
      fewer = omega (arith, fewer, some, width);
      stands = stands_next m t regex h at after inv.stands steps.same gives.goes_on c.start.result start c.go_on.ensures.moved onward;
      goes = subst (λ (n : ℕ). RowsGo w (rows_listed regex (is_handed_text h) (handed_bytes h)) c.args.request.now after c.args.groups.now (put_mid used (end - used) now row) (used + n) (c.rows.written + 1)) (sym width) goes;
    }

pub rows-smaller : goal.rows-smaller
rows-smaller c =
    let inside = c.rows.invariant.inside in
    let fits = row_fits c.rows.used c.captures_len-width.result c.rows.groups c.put_groups.new.groups inside c.rows-test.true c.put_groups.auto.groups in
    let some = some_group c.args.regex.now in
    let width = c.captures_len-width.ensures in
    let same = fits.same in
    let more = fits.inside in
    omega (arith, inside, some, width, same, more)

pub returns-in-Some-Err-clause-told : goal.returns-in-Some-Err-clause-told
returns-in-Some-Err-clause-told c =
    let inv = c.rows.invariant in
    let steps = rw c.in-Some-Err.field-0-is at c.in-Some-Err.ensures.steps in
    let refused = refused_ahead told (matches_in c.rows.list) c.args.regex.now c.args.haystack c.rows.request inv.stands c.in-Some-Err.error steps.answers.refused in
    is_given c.in-Ok.ensures.place inv.goes.given inv.goes.gives inv.goes.each
    (inv.goes.put ∙ ap (λ (n : ℕ). joined inv.goes.given ++ drop n c.args.groups.now) (sym inv.goes.filled)) (sym inv.goes.counted)
    (is_refused (c.in-Some-Err.error, c.answer_of.ensures.value, refused))

pub returns-in-None-clause-told : goal.returns-in-None-clause-told
returns-in-None-clause-told c =
    let inv = c.rows.invariant in
    let ends = c.in-None.ensures.steps.answers in
    let m = matches_in c.rows.list in
    let at = c.rows.request in
    is_given c.in-Ok.ensures.place inv.goes.given inv.goes.gives inv.goes.each
    (inv.goes.put ∙ ap (λ (n : ℕ). joined inv.goes.given ++ drop n c.args.groups.now) (sym inv.goes.filled)) (sym inv.goes.counted)
    (is_ended refl (allowed_ahead told m c.args.regex.now c.args.haystack at inv.stands ends.allowed) (none_left_ahead told m c.args.regex.now c.args.haystack at inv.stands ends.none refl))

pub returns-clause-told : goal.returns-clause-told
returns-clause-told c =
    let inv = c.rows.invariant in
    let past = c.rows-test.false in
    let width = c.captures_len-width.ensures in
    let inside = inv.inside in
    let filled = inv.goes.filled in
    let long = c.rows.auto.groups in
    is_given c.in-Ok.ensures.place inv.goes.given inv.goes.gives inv.goes.each
    (inv.goes.put ∙ ap (λ (n : ℕ). joined inv.goes.given ++ drop n c.args.groups.now) (sym inv.goes.filled)) (sym inv.goes.counted)
    (is_full refl (omega (arith, past, width, inside, filled, long)))

pub returns-in-Some-Err-clause-short : goal.returns-in-Some-Err-clause-short
returns-in-Some-Err-clause-short c = λ other. end_is_short (matches_in c.rows.list) c.args.regex.now c.args.haystack c.rows.request c.rows.invariant.stands

pub returns-in-None-clause-short : goal.returns-in-None-clause-short
returns-in-None-clause-short c = λ other. end_is_short (matches_in c.rows.list) c.args.regex.now c.args.haystack c.rows.request c.rows.invariant.stands

pub returns-clause-short : goal.returns-clause-short
returns-clause-short c = λ other. end_is_short (matches_in c.rows.list) c.args.regex.now c.args.haystack c.rows.request c.rows.invariant.stands
