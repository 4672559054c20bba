use Rattle.std.proofs.Common.{Option, Some, subst}
use Rattle.std.specs.Prelude.{IfSome}
use Rattle.fancy_code.specs.Code.{instrs_of}
use Rattle.fancy_prices.specs.declared.facts.Ending.TheVariants.{Last}
use Rattle.fancy_prices.specs.declared.price.Price.{Price}
use Rattle.fancy_prices.specs.Prices.{DiesBehind}
use Rattle.fancy_prices.proofs.rows.price_after.Goals as goal

pub returns-in-Some : goal.returns-in-Some
returns-in-Some c =
    let dies = subst (λ (o : Option Price). IfSome o (λ p. DiesBehind (instrs_of c.args.code.now) (Last c.args.before) p.marks p.returns c.args.code.now.start)) c.in-Some.is c.requires in
    c.told_at.ensures c.args.code.now (Some c.args.before) (λ x limit n s v meaning stands. dies x limit n s v stands.before)
