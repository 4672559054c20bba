use Rattle.std.proofs.Common.{◌∙◌, ◌==◌, eq-eqb, ne_eqb}
use Rattle.fancy_meaning.proofs.ReadingLemmas.{no_item, an_item, other_item, low_character}
use Rattle.fancy_code.proofs.step.past_character.Goals as goal

pub returns-in_err-reading-clause-past : goal.returns-in_err-reading-clause-past
returns-in_err-reading-clause-past c suppressed from =
    c.from_residual.ensures ∙ no_item c.args.haystack.now c.args.meaning suppressed from (λ d. d == c.args.character) c.args.place c.read_at.result c.read_at.ensures.reading c.in_err-reading.was

pub returns-then-reading-code-clause-past : goal.returns-then-reading-code-clause-past
returns-then-reading-code-clause-past c suppressed from =
    an_item c.args.haystack.now c.args.meaning suppressed from (λ d. d == c.args.character) c.args.place c.read_at.result c.read_at.ensures.reading c.in_ok-reading.reading c.in_ok-reading.was (eq-eqb _ _ c.if-reading-code.true)

pub returns-else-reading-code-clause-past : goal.returns-else-reading-code-clause-past
returns-else-reading-code-clause-past c suppressed from =
    other_item c.args.haystack.now c.args.meaning suppressed from (λ d. d == c.args.character) c.args.place c.read_at.result c.read_at.ensures.reading c.in_ok-reading.reading c.in_ok-reading.was (ne_eqb _ _ c.if-reading-code.false)

pub returns-then-code-lt128-clause-past : goal.returns-then-code-lt128-clause-past
returns-then-code-lt128-clause-past c suppressed from =
    c.past_raw_byte.ensures.past c.args.meaning suppressed from ∙ low_character c.args.haystack.now c.args.meaning suppressed from c.args.character c.args.place c.if-code-lt128.true
