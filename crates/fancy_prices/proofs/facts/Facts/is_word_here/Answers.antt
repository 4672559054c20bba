use Rattle.std.proofs.Common.{◌∙◌, sym, arith}
use Rattle.fancy_prices.proofs.FactLemmas.{low_word_here}
use Rattle.fancy_prices.proofs.facts.Facts.is_word_here.Goals as goal

pub returns-then-self-lt128 : goal.returns-then-self-lt128
returns-then-self-lt128 c m h p stands = low_word_here m h p c.args.self.here (omega (arith, c.if-self-lt128.true)) stands.here ∙ sym c.is_word.ensures
