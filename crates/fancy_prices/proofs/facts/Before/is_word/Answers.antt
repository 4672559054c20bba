use Rattle.std.proofs.Common.{false, Some, sym, subst}
use Rattle.fancy_prices.specs.declared.facts.Before.{Before}
use Rattle.fancy_prices.specs.Facts.{TellsWord}
use Rattle.fancy_prices.proofs.FactLemmas.{no_word_at_start, words_before}
use Rattle.fancy_prices.proofs.facts.Before.is_word.Goals as goal

pub returns-in-Nothing : goal.returns-in-Nothing
returns-in-Nothing c = subst (λ (k : Before). TellsWord k (Some false)) (sym c.in-Nothing.is) (λ m h p b stands is. no_word_at_start m h p b stands is)

pub returns-in-Among : goal.returns-in-Among
returns-in-Among c =
    subst (λ (k : Before). TellsWord k c.in-Among.kind.now.word) (sym c.in-Among.is) (words_before c.in-Among.kind.now.bytes c.in-Among.kind.now.word c.in-Among.kind.now.words)
