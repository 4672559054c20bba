use Rattle.std.proofs.Common.{Some, arith, subst}
use Rattle.fancy_prices.specs.Facts.{IsOfKind}
use Rattle.fancy_prices.specs.Prices.{last_byte}
use Rattle.fancy_prices.proofs.BehindLemmas.{high_last, low_last}
use Rattle.fancy_prices.proofs.facts.Before.may_end.Goals as goal

pub returns : goal.returns
returns c e meaning of = c.is_wide.ensures e (last_byte meaning c.args.character) (high_last meaning c.args.character (omega (arith, c.if-code-lt128.false))) of

pub returns-then-code-lt128 : goal.returns-then-code-lt128
returns-then-code-lt128 c e meaning of =
    c.may_be.ensures e (subst (λ b. IsOfKind c.args.self (Some b)) (low_last meaning c.args.character (omega (arith, c.if-code-lt128.true))) of)
