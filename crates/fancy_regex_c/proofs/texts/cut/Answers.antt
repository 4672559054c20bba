use Rattle.std.proofs.Common.{◌≡◌, ◌∙◌, ◌+◌, ℕ, List, Bor, length, map, refl, ap, arith}
use Rattle.fancy_regex.specs.declared.Request.{Request}
use Rattle.fancy_regex.specs.Iterations.{next_request}
use Rattle.fancy_regex.specs.MatchList.{MatchItem, span_of_item}
use Rattle.fancy_regex.specs.Spans.{from_to}
use Rattle.fancy_regex_c.specs.declared.plain.Span.{Span}
use Rattle.fancy_regex_c.specs.Buffers.{filled}
use Rattle.fancy_regex_c.specs.Splitting.{pieces_of}
use Rattle.fancy_regex_c.proofs.CutLemmas.{cuts_first, cuts_more, cuts_last, cuts_at_limit, none_is}
use Rattle.fancy_regex_c.proofs.texts.cut.Goals.{else-pieces-test, then-pieces-test+in_default}
use Rattle.fancy_regex_c.proofs.texts.cut.Goals as goal

pub pieces-init : goal.pieces-init
pieces-init c =
    let asked = c.find_iter-list.ensures.request in
    let none = c.requires.none in
    let some : c.args.limit ≡ 0 → ⊥ = c.if-limit-eq0.false in
    record {
      regex = c.find_iter-list.ensures.regex;
      text = ap (λ (s : Bor (List ℕ)). s.now) c.find_iter-list.ensures.text;
      request = rw asked refl;
      inside = omega (arith, none, some);
      cuts = cuts_first c.args.regex.now c.args.text.now c.args.limit c.args.pieces.now c.args.count.now _ none (ap (λ (xs : List MatchItem). map span_of_item xs) c.find_iter-list.ensures.matches);
    }

pub pieces-preserved : goal.pieces-preserved
pieces-preserved c =
    let gives = rw c.in_ok-found.was at c.in-Some.ensures.steps.answers in
    let same = c.in-Some.ensures.steps.same in
    let room = c.pieces-test.true in
    let more = c.put_next.ensures.counted in
    let piece : ℕ → Span = λ e. record { start = c.pieces.start; end = e } in
    record {
      regex = same.same_regex ∙ c.pieces.invariant.regex;
      text = ap (λ (s : Bor (List ℕ)). s.now) same.same_text ∙ c.pieces.invariant.text;
      request = same.same_request ∙ ap (λ (r : Request). record r { start = (next_request c.next.new.self).start }) c.pieces.invariant.request;
      inside = omega (arith, more, room);
      cuts = rw (more, c.end-start.ensures) (cuts_more (pieces_of c.args.regex.now c.args.text.now c.args.limit) (length c.args.text.now) c.args.limit c.args.pieces.now
          c.pieces.pieces c.put_next.new.buffer c.pieces.count c.pieces.start (piece c.start-end.result) _ _ (from_to c.in_ok-found.found.start c.in_ok-found.found.end)
          gives.first room (ap piece c.start-end.ensures) c.put_next.ensures.put c.pieces.invariant.cuts);
    }

pub returns-clause-counted : goal.returns-clause-counted
returns-clause-counted c =
    let inside = c.pieces.invariant.inside in
    let all = pieces_of c.args.regex.now c.args.text.now c.args.limit in
    let end = length c.args.text.now in
    let ends : (c.pieces.count + 1 ≡ length all) × (c.put_next-2.new.buffer ≡ filled all c.args.pieces.now) =
    elim c.pieces-test.branch [
      | else-pieces-test w ↦ (let full = w.pieces-test.false in
          cuts_at_limit all end c.args.limit c.args.pieces.now c.pieces.pieces c.put_next-2.new.buffer c.pieces.count c.pieces.start (record { start = c.pieces.start; end = end }) _
          (omega (arith, full, inside)) refl c.put_next-2.ensures.put c.pieces.invariant.cuts)
      | then-pieces-test+in_default w ↦ (let ended = rw (none_is w.next.result w.in_default.not-Some) at w.next.ensures.steps.answers in
          cuts_last all end c.args.limit c.args.pieces.now c.pieces.pieces c.put_next-2.new.buffer c.pieces.count c.pieces.start (record { start = c.pieces.start; end = end }) _
          (ap (λ (xs : List MatchItem). map span_of_item xs) ended.none) inside refl c.put_next-2.ensures.put c.pieces.invariant.cuts)
    ] in
    c.put_next-2.ensures.counted ∙ ends.0

pub returns-clause-put : goal.returns-clause-put
returns-clause-put c =
    let inside = c.pieces.invariant.inside in
    let all = pieces_of c.args.regex.now c.args.text.now c.args.limit in
    let end = length c.args.text.now in
    let ends : (c.pieces.count + 1 ≡ length all) × (c.put_next-2.new.buffer ≡ filled all c.args.pieces.now) =
    elim c.pieces-test.branch [
      | else-pieces-test w ↦ (let full = w.pieces-test.false in
          cuts_at_limit all end c.args.limit c.args.pieces.now c.pieces.pieces c.put_next-2.new.buffer c.pieces.count c.pieces.start (record { start = c.pieces.start; end = end }) _
          (omega (arith, full, inside)) refl c.put_next-2.ensures.put c.pieces.invariant.cuts)
      | then-pieces-test+in_default w ↦ (let ended = rw (none_is w.next.result w.in_default.not-Some) at w.next.ensures.steps.answers in
          cuts_last all end c.args.limit c.args.pieces.now c.pieces.pieces c.put_next-2.new.buffer c.pieces.count c.pieces.start (record { start = c.pieces.start; end = end }) _
          (ap (λ (xs : List MatchItem). map span_of_item xs) ended.none) inside refl c.put_next-2.ensures.put c.pieces.invariant.cuts)
    ] in
    ends.1
