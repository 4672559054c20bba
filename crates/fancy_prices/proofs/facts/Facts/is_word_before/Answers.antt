use Rattle.std.proofs.lemmas.Option.{IfSome_then}
use Rattle.fancy_prices.proofs.FactLemmas.{kind_before}
use Rattle.fancy_prices.proofs.facts.Facts.is_word_before.Goals as goal

pub returns : goal.returns
returns c =
    IfSome_then c.is_word.result c.is_word.ensures
    (λ word tells m h p stands. tells m h p c.args.self.here stands.here (kind_before c.args.self c.in_ok-self.field-0 c.in_ok-self.was h p stands))
