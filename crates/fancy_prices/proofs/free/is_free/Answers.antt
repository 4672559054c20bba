use Rattle.std.proofs.Common.{ℕ}
use Rattle.fancy_code.specs.Code.{instrs_of}
use Rattle.fancy_prices.specs.Prices.{Dies}
use Rattle.fancy_prices.proofs.PriceForms.{from_nothing}
use Rattle.fancy_prices.proofs.free.is_free.Goals as goal

pub returns-in-Some : goal.returns-in-Some
returns-in-Some c e =
    from_nothing (λ (m r : ℕ). Dies (instrs_of c.args.code.now) c.args.code.now.meaning c.args.facts m r c.args.at) c.in-Some.price (c.is_nothing.ensures e) c.in-Some.ensures
