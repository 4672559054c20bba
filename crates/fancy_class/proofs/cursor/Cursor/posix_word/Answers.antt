use Rattle.std.proofs.Common.{take, drop, ◌∙◌}
use Rattle.fancy_class.specs.ClassGrammar.{posix_words}
use Rattle.fancy_class.proofs.WordLemmas.{by_earlier_word, by_later_word}
use Rattle.fancy_class.proofs.cursor.Cursor.posix_word.Goals as goal

pub returns-in-Some-clause-value : goal.returns-in-Some-clause-value
returns-in-Some-clause-value c =
    by_earlier_word (take 7 posix_words) (drop 7 posix_words) c.args.self.now.rest.now _ c.in-Some.ensures.value

pub returns-in-None-clause-value : goal.returns-in-None-clause-value
returns-in-None-clause-value c =
    by_later_word (take 7 posix_words) (drop 7 posix_words) c.args.self.now.rest.now c.in-None.ensures.value
    ∙ c.posix_word_from_lower.ensures.value
