use Rattle.std.proofs.Common.{◌∙◌}
use Rattle.fancy_tree.specs.declared.tree.Meaning.TheVariants.{Unicode, Bytes, AsciiText}
use Rattle.fancy_machine.specs.Attempt.{reading}
use Rattle.fancy_machine.proofs.RecallLemmas.{text_seen, again_exact, again_folded}
use Rattle.fancy_machine.proofs.texts.past_span.Goals as goal

pub returns-then-not-folded : goal.returns-then-not-folded
returns-then-not-folded c x =
    c.past_text.ensures c.args.meaning x
    ∙ again_exact (reading c.args.haystack.now c.args.meaning x) c.args.folded c.args.span c.in_ok-span.span c.args.place c.first_of-text.result.now c.if-not-folded.true c.in_ok-span.was
    (text_seen c.args.haystack.now c.args.meaning x c.in_ok-span.span c.bytes_from-rest.result.now c.first_of-text.result.now _ c.bytes_from-rest.ensures c.first_of-text.ensures c.saturating_sub.ensures)

pub returns-in-Unicode : goal.returns-in-Unicode
returns-in-Unicode c x =
    c.past_characters.ensures x
    ∙ again_folded c.args.haystack.now c.args.meaning Unicode x c.args.folded c.args.span c.in_ok-span.span c.args.place c.first_of-text.result.now c.in-Unicode.is c.if-not-folded.false c.in_ok-span.was
    (text_seen c.args.haystack.now c.args.meaning x c.in_ok-span.span c.bytes_from-rest.result.now c.first_of-text.result.now _ c.bytes_from-rest.ensures c.first_of-text.ensures c.saturating_sub.ensures)

pub returns-in-Bytes : goal.returns-in-Bytes
returns-in-Bytes c x =
    c.past_letters.ensures Bytes x
    ∙ again_folded c.args.haystack.now c.args.meaning Bytes x c.args.folded c.args.span c.in_ok-span.span c.args.place c.first_of-text.result.now c.in-Bytes.is c.if-not-folded.false c.in_ok-span.was
    (text_seen c.args.haystack.now c.args.meaning x c.in_ok-span.span c.bytes_from-rest.result.now c.first_of-text.result.now _ c.bytes_from-rest.ensures c.first_of-text.ensures c.saturating_sub.ensures)

pub returns-in-AsciiText : goal.returns-in-AsciiText
returns-in-AsciiText c x =
    c.past_letters-in-AsciiText.ensures AsciiText x
    ∙ again_folded c.args.haystack.now c.args.meaning AsciiText x c.args.folded c.args.span c.in_ok-span.span c.args.place c.first_of-text.result.now c.in-AsciiText.is c.if-not-folded.false c.in_ok-span.was
    (text_seen c.args.haystack.now c.args.meaning x c.in_ok-span.span c.bytes_from-rest.result.now c.first_of-text.result.now _ c.bytes_from-rest.ensures c.first_of-text.ensures c.saturating_sub.ensures)
