use Rattle.std.proofs.Common.{ℕ}
use Rattle.std.proofs.lemmas.Option.{IfSome_then}
use Rattle.fancy_code.specs.Code.{instrs_of}
use Rattle.fancy_prices.specs.Prices.{Dies}
use Rattle.fancy_prices.proofs.PriceForms.{from_nothing, same_price}
use Rattle.fancy_prices.proofs.rows.told_at.Goals as goal

pub returns-then-is_continuation : goal.returns-then-is_continuation
returns-then-is_continuation c code before dies =
    let F : ℕ → ℕ → Type 0 = λ m r. Dies (instrs_of code) code.meaning (record { here = c.args.here; before = before }) m r code.start in
    IfSome_then c.if_nothing.result c.if_nothing.ensures
    (λ p is. (same_price F p 0 0 is.1.0 is.1.1 (from_nothing F c.args.price is.0 dies), λ inner. is.1))
