use Rattle.std.proofs.Common.{◌==◌, ◌||◌, ◌&&◌, not, Option, ℕ, length, sym, ap, ap₂, ◌∙◌, eq-eqb, ne_eqb}
use Rattle.std.specs.Prelude.{slice_get}
use Rattle.fancy_meaning.specs.Context.{word_before, word_after}
use Rattle.fancy_input.specs.Lines.{is_line_feed, is_carriage_return, byte_before}
use Rattle.fancy_tree.specs.Sets.{differ}
use Rattle.fancy_meaning.proofs.WordCharacters.{not_same, same}
use Rattle.fancy_meaning.proofs.ReadingLemmas.{holds_text_start, holds_text_end, holds_line_start, holds_line_end, holds_line_start_crlf, holds_line_end_crlf, holds_last_line, holds_last_line_crlf, or_left, or_right, and_left, and_right, holds_word_boundary, holds_not_word_boundary, holds_word_start, holds_word_end, holds_word_start_half, holds_word_end_half}
use Rattle.fancy_meaning.proofs.reading.holds_at.Goals as goal

pub returns-then-place-eq0-clause-held : goal.returns-then-place-eq0-clause-held
returns-then-place-eq0-clause-held c from =
    rw c.in-TextStart.is
    (and_right (c.args.place == 0) (not c.args.suppressed.start) (eq-eqb _ _ c.if-place-eq0.true)
    ∙ sym (holds_text_start c.args.haystack.now c.args.meaning c.args.suppressed from c.args.place))

pub returns-else-place-eq0-clause-held : goal.returns-else-place-eq0-clause-held
returns-else-place-eq0-clause-held c from =
    rw c.in-TextStart.is
    (and_left (c.args.place == 0) (not c.args.suppressed.start) (ne_eqb _ _ c.if-place-eq0.false)
    ∙ sym (holds_text_start c.args.haystack.now c.args.meaning c.args.suppressed from c.args.place))

pub returns-then-place-haystack-clause-held : goal.returns-then-place-haystack-clause-held
returns-then-place-haystack-clause-held c from =
    rw c.in-TextEnd.is
    (and_right (c.args.place == length c.args.haystack.now) (not c.args.suppressed.end) (eq-eqb _ _ c.if-place-haystack.true)
    ∙ sym (holds_text_end c.args.haystack.now c.args.meaning c.args.suppressed from c.args.place))

pub returns-else-place-haystack-clause-held : goal.returns-else-place-haystack-clause-held
returns-else-place-haystack-clause-held c from =
    rw c.in-TextEnd.is
    (and_left (c.args.place == length c.args.haystack.now) (not c.args.suppressed.end) (ne_eqb _ _ c.if-place-haystack.false)
    ∙ sym (holds_text_end c.args.haystack.now c.args.meaning c.args.suppressed from c.args.place))

pub returns-then-place-eq0-2-clause-held : goal.returns-then-place-eq0-2-clause-held
returns-then-place-eq0-2-clause-held c from =
    rw c.in-LineStart.is
    (or_left (c.args.place == 0) (is_line_feed (byte_before c.args.haystack.now c.args.place)) (eq-eqb _ _ c.if-place-eq0-2.true)
    ∙ sym (holds_line_start c.args.haystack.now c.args.meaning c.args.suppressed from c.args.place))

pub returns-else-place-eq0-2-clause-held : goal.returns-else-place-eq0-2-clause-held
returns-else-place-eq0-2-clause-held c from =
    rw c.in-LineStart.is
    (c.is_line_feed.ensures
    ∙ ap is_line_feed c.byte_before.ensures
    ∙ or_right (c.args.place == 0) (is_line_feed (byte_before c.args.haystack.now c.args.place)) (ne_eqb _ _ c.if-place-eq0-2.false)
    ∙ sym (holds_line_start c.args.haystack.now c.args.meaning c.args.suppressed from c.args.place))

pub returns-then-place-haystack-2-clause-held : goal.returns-then-place-haystack-2-clause-held
returns-then-place-haystack-2-clause-held c from =
    rw c.in-LineEnd.is
    (or_left (c.args.place == length c.args.haystack.now) (is_line_feed (slice_get c.args.haystack.now c.args.place)) (eq-eqb _ _ c.if-place-haystack-2.true)
    ∙ sym (holds_line_end c.args.haystack.now c.args.meaning c.args.suppressed from c.args.place))

pub returns-else-place-haystack-2-clause-held : goal.returns-else-place-haystack-2-clause-held
returns-else-place-haystack-2-clause-held c from =
    rw c.in-LineEnd.is
    (c.is_line_feed-else-place-haystack-2.ensures
    ∙ ap is_line_feed c.byte_at.ensures
    ∙ or_right (c.args.place == length c.args.haystack.now) (is_line_feed (slice_get c.args.haystack.now c.args.place)) (ne_eqb _ _ c.if-place-haystack-2.false)
    ∙ sym (holds_line_end c.args.haystack.now c.args.meaning c.args.suppressed from c.args.place))

pub returns-then-place-eq0-3-clause-held : goal.returns-then-place-eq0-3-clause-held
returns-then-place-eq0-3-clause-held c from =
    rw c.in-LineStartCrlf.is
    (or_left (c.args.place == 0) _ (eq-eqb _ _ c.if-place-eq0-3.true)
    ∙ sym (holds_line_start_crlf c.args.haystack.now c.args.meaning c.args.suppressed from c.args.place))

pub returns-else-place-eq0-3-clause-held : goal.returns-else-place-eq0-3-clause-held
returns-else-place-eq0-3-clause-held c from =
    rw c.in-LineStartCrlf.is
    (c.starts_line_crlf.ensures
    ∙ ap (λ (b : Option ℕ). is_line_feed b || (is_carriage_return b && not (is_line_feed c.byte_at-else-place-eq0-3.result))) c.byte_before-else-place-eq0-3.ensures
    ∙ ap (λ (b : Option ℕ). is_line_feed (byte_before c.args.haystack.now c.args.place) || (is_carriage_return (byte_before c.args.haystack.now c.args.place) && not (is_line_feed b)))
    c.byte_at-else-place-eq0-3.ensures
    ∙ or_right (c.args.place == 0) _ (ne_eqb _ _ c.if-place-eq0-3.false)
    ∙ sym (holds_line_start_crlf c.args.haystack.now c.args.meaning c.args.suppressed from c.args.place))

pub returns-then-place-haystack-3-clause-held : goal.returns-then-place-haystack-3-clause-held
returns-then-place-haystack-3-clause-held c from =
    rw c.in-LineEndCrlf.is
    (or_left (c.args.place == length c.args.haystack.now) _ (eq-eqb _ _ c.if-place-haystack-3.true)
    ∙ sym (holds_line_end_crlf c.args.haystack.now c.args.meaning c.args.suppressed from c.args.place))

pub returns-else-place-haystack-3-clause-held : goal.returns-else-place-haystack-3-clause-held
returns-else-place-haystack-3-clause-held c from =
    rw c.in-LineEndCrlf.is
    (c.ends_line_crlf.ensures
    ∙ ap (λ (b : Option ℕ). is_carriage_return c.byte_at-else-place-haystack-3.result || (is_line_feed c.byte_at-else-place-haystack-3.result && not (is_carriage_return b)))
    c.byte_before-else-place-haystack-3.ensures
    ∙ ap (λ (b : Option ℕ). is_carriage_return b || (is_line_feed b && not (is_carriage_return (byte_before c.args.haystack.now c.args.place)))) c.byte_at-else-place-haystack-3.ensures
    ∙ or_right (c.args.place == length c.args.haystack.now) _ (ne_eqb _ _ c.if-place-haystack-3.false)
    ∙ sym (holds_line_end_crlf c.args.haystack.now c.args.meaning c.args.suppressed from c.args.place))

pub returns-in-LastLine-clause-held : goal.returns-in-LastLine-clause-held
returns-in-LastLine-clause-held c from =
    rw c.in-LastLine.is
    (c.is_last_line.ensures.last
    ∙ sym (holds_last_line c.args.haystack.now c.args.meaning c.args.suppressed from c.args.place))

pub returns-in-LastLineCrlf-clause-held : goal.returns-in-LastLineCrlf-clause-held
returns-in-LastLineCrlf-clause-held c from =
    rw c.in-LastLineCrlf.is
    (c.is_last_line_crlf.ensures.last
    ∙ sym (holds_last_line_crlf c.args.haystack.now c.args.meaning c.args.suppressed from c.args.place))

pub returns-in-WordBoundary-clause-held : goal.returns-in-WordBoundary-clause-held
returns-in-WordBoundary-clause-held c from =
    rw c.in-WordBoundary.is
    (not_same c.is_word_before.result c.is_word_after.result
    ∙ ap₂ differ c.is_word_before.ensures c.is_word_after.ensures
    ∙ sym (holds_word_boundary c.args.haystack.now c.args.meaning c.args.suppressed from c.args.place))

pub returns-in-NotWordBoundary-clause-held : goal.returns-in-NotWordBoundary-clause-held
returns-in-NotWordBoundary-clause-held c from =
    rw c.in-NotWordBoundary.is
    (same c.is_word_before-in-NotWordBoundary.result c.is_word_after-in-NotWordBoundary.result
    ∙ ap not (ap₂ differ c.is_word_before-in-NotWordBoundary.ensures c.is_word_after-in-NotWordBoundary.ensures)
    ∙ sym (holds_not_word_boundary c.args.haystack.now c.args.meaning c.args.suppressed from c.args.place))

pub returns-then-not-is_word_before-clause-held : goal.returns-then-not-is_word_before-clause-held
returns-then-not-is_word_before-clause-held c from =
    rw c.in-WordStart.is
    (c.is_word_after-then-not-is_word_before.ensures
    ∙ and_right (not (word_before c.args.meaning c.args.haystack.now c.args.place)) (word_after c.args.meaning c.args.haystack.now c.args.place)
    (ap not (sym c.is_word_before-in-WordStart.ensures ∙ c.if-not-is_word_before.true))
    ∙ sym (holds_word_start c.args.haystack.now c.args.meaning c.args.suppressed from c.args.place))

pub returns-else-not-is_word_before-clause-held : goal.returns-else-not-is_word_before-clause-held
returns-else-not-is_word_before-clause-held c from =
    rw c.in-WordStart.is
    (ap not c.is_word_before-in-WordStart.ensures
    ∙ and_left (not (word_before c.args.meaning c.args.haystack.now c.args.place)) (word_after c.args.meaning c.args.haystack.now c.args.place)
    (ap not (sym c.is_word_before-in-WordStart.ensures ∙ c.if-not-is_word_before.false))
    ∙ sym (holds_word_start c.args.haystack.now c.args.meaning c.args.suppressed from c.args.place))

pub returns-then-is_word_before-clause-held : goal.returns-then-is_word_before-clause-held
returns-then-is_word_before-clause-held c from =
    rw c.in-WordEnd.is
    (ap not c.is_word_after-then-is_word_before.ensures
    ∙ and_right (word_before c.args.meaning c.args.haystack.now c.args.place) (not (word_after c.args.meaning c.args.haystack.now c.args.place))
    (sym c.is_word_before-in-WordEnd.ensures ∙ c.if-is_word_before.true)
    ∙ sym (holds_word_end c.args.haystack.now c.args.meaning c.args.suppressed from c.args.place))

pub returns-else-is_word_before-clause-held : goal.returns-else-is_word_before-clause-held
returns-else-is_word_before-clause-held c from =
    rw c.in-WordEnd.is
    (c.is_word_before-in-WordEnd.ensures
    ∙ and_left (word_before c.args.meaning c.args.haystack.now c.args.place) (not (word_after c.args.meaning c.args.haystack.now c.args.place))
    (sym c.is_word_before-in-WordEnd.ensures ∙ c.if-is_word_before.false)
    ∙ sym (holds_word_end c.args.haystack.now c.args.meaning c.args.suppressed from c.args.place))

pub returns-in-WordStartHalf-clause-held : goal.returns-in-WordStartHalf-clause-held
returns-in-WordStartHalf-clause-held c from =
    rw c.in-WordStartHalf.is (ap not c.is_word_before-in-WordStartHalf.ensures ∙ sym (holds_word_start_half c.args.haystack.now c.args.meaning c.args.suppressed from c.args.place))

pub returns-in-WordEndHalf-clause-held : goal.returns-in-WordEndHalf-clause-held
returns-in-WordEndHalf-clause-held c from =
    rw c.in-WordEndHalf.is (ap not c.is_word_after-in-WordEndHalf.ensures ∙ sym (holds_word_end_half c.args.haystack.now c.args.meaning c.args.suppressed from c.args.place))
