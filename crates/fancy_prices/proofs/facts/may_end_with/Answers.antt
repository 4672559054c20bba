use Rattle.std.proofs.Common.{◌∙◌, sym, arith, true≢false, eq-eqb, leb-false}
use Rattle.fancy_prices.proofs.BehindLemmas.{high_ends, low_ends}
use Rattle.fancy_prices.proofs.facts.may_end_with.Goals as goal

pub returns-then-byte-lt128 : goal.returns-then-byte-lt128
returns-then-byte-lt128 c e = low_ends c.args.byte c.args.character (omega (arith, c.if-byte-lt128.true)) (λ same. true≢false (sym (eq-eqb c.args.character c.args.byte same) ∙ e))

pub returns : goal.returns
returns c e = high_ends c.args.byte c.args.character (omega (arith, c.if-byte-lt128.false)) (leb-false 128 c.args.character e)
