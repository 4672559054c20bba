use Rattle.std.proofs.Common.{◌∙◌}
use Rattle.fancy_meaning.proofs.WordCharacters.{unicode_word}
use Rattle.fancy_meaning.proofs.reading.is_unicode_word.Goals as goal

pub returns : goal.returns
returns c = c.is_word_code.ensures ∙ unicode_word c.args.c c.ranges.c.0
