use Rattle.std.proofs.Common.{◌==◌, sym, ◌∙◌}
use Rattle.std.specs.Char.{is_ascii_alphanumeric}
use Rattle.fancy_meaning.proofs.ReadingLemmas.{or_left, or_right}
use Rattle.fancy_meaning.proofs.WordCharacters.{ascii_word}
use Rattle.fancy_meaning.proofs.reading.is_ascii_word.Goals as goal

pub returns-then-is_ascii_alphanumeric : goal.returns-then-is_ascii_alphanumeric
returns-then-is_ascii_alphanumeric c =
    c.is_ascii_alphanumeric.ensures.value
    ∙ or_left (is_ascii_alphanumeric c.args.c) (c.args.c == 95) (sym c.is_ascii_alphanumeric.ensures.value ∙ c.if-is_ascii_alphanumeric.true)
    ∙ ascii_word c.args.c

pub returns-else-is_ascii_alphanumeric : goal.returns-else-is_ascii_alphanumeric
returns-else-is_ascii_alphanumeric c =
    or_right (is_ascii_alphanumeric c.args.c) (c.args.c == 95) (sym c.is_ascii_alphanumeric.ensures.value ∙ c.if-is_ascii_alphanumeric.false)
    ∙ ascii_word c.args.c
