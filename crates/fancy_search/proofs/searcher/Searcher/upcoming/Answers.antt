use Rattle.std.proofs.Common.{◌≡◌, Option, Some, refl, sym, ap, ◌∙◌, arith}
use Rattle.std.proofs.lemmas.Result.{err_from_is_err_and}
use Rattle.fancy_input.specs.declared.input.Request.{Request}
use Rattle.fancy_search.specs.FoundItems.{item_in}
use Rattle.fancy_search.specs.Remaining.{at_first}
use Rattle.fancy_search.specs.MatchList.{MatchItem}
use Rattle.fancy_search.specs.Searchers.{answer_next, item_next, scan_of, standing_of}
use Rattle.fancy_search.proofs.IterationStepLemmas.{passes, passes_start, refuses_first, refuses_passed, allows_passed, not_passed}
use Rattle.fancy_search.proofs.KeptTablesLemmas.{keeps_moved, starts_at}
use Rattle.fancy_search.proofs.RemainingLemmas.{keeps, stays, unskipped}
use Rattle.fancy_search.proofs.searcher.Searcher.upcoming.Goals as goal

pub returns-in_err-item-clause-refused : goal.returns-in_err-item-clause-refused
returns-in_err-item-clause-refused g c =
    let q = err_from_is_err_and c.from_residual.result c.from_residual.ensures.1 in
    rw (q.1, q.2) (c.searches.invariant.refused _ (at_first c.in_err-item.ensures.refused))

pub returns-then-not-passes_over-clause-value : goal.returns-then-not-passes_over-clause-value
returns-then-not-passes_over-clause-value g c =
    let w = c.searches.self in
    let next = item_next g.S.Haystack.text g.S.Haystack.bytes c.args.program.now c.args.self.now in
    let here = answer_next g.S.Haystack.text g.S.Haystack.bytes c.args.program.now w in
    let item = item_in c.answer.new.cache here c.in-Some.item in
    let value : Some item ≡ here = rw c.in-Some.is at c.in_ok-item.ensures.value in
    let same : Some item ≡ next = sym (keeps (scan_of g.S.Haystack.text g.S.Haystack.bytes c.args.program.now w) w.request.start w.continues w.skips_empty item
    (sym value) (rw (c.answer.ensures.skips_empty, c.answer.ensures.request) at (c.passes_over.ensures.stays c.if-not-passes_over.true)))
    ∙ c.searches.invariant.value in
    ap (λ (o : Option MatchItem). Some (item_in c.answer.new.cache o c.in-Some.item)) (sym same ∙ value) ∙ same

pub returns-then-not-passes_over-clause-start : goal.returns-then-not-passes_over-clause-start
returns-then-not-passes_over-clause-start g c =
    let w = c.searches.self in
    ap (λ (r : Request). r.start) c.answer.ensures.request
    ∙ sym (stays (scan_of g.S.Haystack.text g.S.Haystack.bytes c.args.program.now w) w.request.start w.continues w.skips_empty (item_in c.answer.new.cache (answer_next g.S.Haystack.text g.S.Haystack.bytes c.args.program.now c.searches.self) c.in-Some.item)
    (sym (rw c.in-Some.is at c.in_ok-item.ensures.value)) (rw (c.answer.ensures.skips_empty, c.answer.ensures.request) at (c.passes_over.ensures.stays c.if-not-passes_over.true)))
    ∙ c.searches.invariant.start

pub returns-then-not-passes_over-clause-allowed : goal.returns-then-not-passes_over-clause-allowed
returns-then-not-passes_over-clause-allowed g c =
    let w = c.searches.self in
    c.searches.invariant.allowed
    (λ _. record {
      first = c.in_ok-item.ensures.allowed;
      next = λ j over. absurd (not_passed (scan_of g.S.Haystack.text g.S.Haystack.bytes c.args.program.now w) (standing_of w) (item_in c.answer.new.cache (answer_next g.S.Haystack.text g.S.Haystack.bytes c.args.program.now c.searches.self) c.in-Some.item) j
          (sym (rw c.in-Some.is at c.in_ok-item.ensures.value)) (rw (c.answer.ensures.skips_empty, c.answer.ensures.request) at (c.passes_over.ensures.stays c.if-not-passes_over.true)) over);
    })

pub searches-smaller : goal.searches-smaller
searches-smaller g c =
    let on = sym c.answer.ensures.skips_empty ∙ (c.passes_over.ensures.passed c.if-not-passes_over.false).0 in
    rw (c.go_past.ensures.goes.skips_empty, on) (omega arith)

pub searches-preserved : goal.searches-preserved
searches-preserved g c =
    let w = c.searches.self in
    let v = c.go_past.new.self in
    let i = item_in c.answer.new.cache (answer_next g.S.Haystack.text g.S.Haystack.bytes c.args.program.now w) c.in-Some.item in
    let found = c.in-Some.item.found in
    let over = c.passes_over.ensures.passed c.if-not-passes_over.false in
    let same = c.go_past.ensures.goes.haystack ∙ c.answer.ensures.haystack in
    let is = sym (rw c.in-Some.is at c.in_ok-item.ensures.value) in
    let on = sym c.answer.ensures.skips_empty ∙ over.0 in
    let here = over.1.1 ∙ ap (λ (r : Request). r.start) c.answer.ensures.request in
    let moved = rw (c.answer.ensures.haystack, c.answer.ensures.request) at c.go_past.ensures.goes.request in
    record {
      haystack = same ∙ c.searches.invariant.haystack;
      request = starts_at w.request v.request _ moved ∙ ap (λ (r : Request). record r { start = v.request.start }) c.searches.invariant.request;
      later = omega (arith, c.searches.invariant.later, here, c.go_past.ensures.later);
      groups = c.go_past.ensures.goes.groups ∙ (c.answer.ensures.groups ∙ c.searches.invariant.groups);
      running = c.go_past.ensures.goes.ended ∙ (c.answer.ensures.ended ∙ c.searches.invariant.running);
      kept = keeps_moved g.S.Haystack.bytes c.args.program.now c.answer.new.cache c.answer.new.self.haystack v.haystack c.answer.new.self.request v.request c.answer.new.self.kept v.kept found.end
          c.go_past.ensures.goes.haystack (starts_at c.answer.new.self.request v.request _ c.go_past.ensures.goes.request) c.go_past.ensures.goes.kept (omega (arith, c.go_past.ensures.later)) (rw c.in-Some.is at c.in_ok-item.ensures.kept);
      value = unskipped (scan_of g.S.Haystack.text g.S.Haystack.bytes c.args.program.now v) v.request.start v.continues v.skips_empty c.go_past.ensures.goes.skips_empty
          ∙ (passes g.S.Haystack.text g.S.Haystack.bytes c.args.program.now w.haystack v.haystack w.request v.request w.skips_empty w.continues v.continues i found.start found.end same is on refl refl over.1.0 here moved c.go_past.ensures.goes.continues
          ∙ c.searches.invariant.value);
      start = passes_start g.S.Haystack.text g.S.Haystack.bytes c.args.program.now w.haystack v.haystack w.request v.request v.skips_empty w.skips_empty w.continues v.continues i found.start found.end same is on refl refl over.1.0 here moved c.go_past.ensures.goes.skips_empty
          ∙ c.searches.invariant.start;
      refused = λ e x. c.searches.invariant.refused e
          (refuses_passed g.S.Haystack.text g.S.Haystack.bytes c.args.program.now w.haystack v.haystack w.request v.request w.skips_empty w.continues v.continues w.ended i found.start found.end same is on refl refl over.1.0 here moved c.go_past.ensures.goes.continues e
          (refuses_first _ (scan_of g.S.Haystack.text g.S.Haystack.bytes c.args.program.now v) (standing_of v) e c.go_past.ensures.goes.skips_empty x));
      allowed = λ x. c.searches.invariant.allowed
          (λ going. allows_passed g.S.Haystack.text g.S.Haystack.bytes c.args.program.now w.haystack v.haystack w.request v.request (standing_of w) v.continues found.end same here refl moved c.go_past.ensures.goes.continues c.in_ok-item.ensures.allowed
          (x (c.go_past.ensures.goes.ended ∙ (c.answer.ensures.ended ∙ going))).first);
    }

pub returns-then-not-passes_over-clause-groups_held : goal.returns-then-not-passes_over-clause-groups_held
returns-then-not-passes_over-clause-groups_held g c asked = rw c.in-Some.is at (c.in_ok-item.ensures.groups_held (c.searches.invariant.groups ∙ asked))
