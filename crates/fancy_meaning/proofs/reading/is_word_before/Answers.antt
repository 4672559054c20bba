use Rattle.std.proofs.Common.{ap, sym, ◌∙◌}
use Rattle.fancy_meaning.specs.Context.{is_word, word_before}
use Rattle.fancy_meaning.proofs.ReadingLemmas.{low_before}
use Rattle.fancy_meaning.proofs.reading.is_word_before.Goals as goal

pub returns-in-Some : goal.returns-in-Some
unfolding word_before
returns-in-Some c =
    c.is_word_character.ensures
    ∙ ap (is_word c.args.meaning) (sym (low_before c.args.meaning c.args.haystack.now c.args.place c.in-Some.byte c.if-byte-lt128.true (sym c.byte_before.ensures ∙ c.in-Some.is)))
