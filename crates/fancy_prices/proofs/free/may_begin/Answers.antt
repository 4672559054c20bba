use Rattle.std.proofs.Common.{true≢false, sym, ◌∙◌, arith}
use Rattle.std.proofs.lemmas.Bool.{le-leb}
use Rattle.fancy_prices.proofs.BeginLemmas.{low_begins_none, high_begins_none}
use Rattle.fancy_prices.proofs.free.may_begin.Goals as goal

pub returns-then-byte-lt128 : goal.returns-then-byte-lt128
returns-then-byte-lt128 c test same wide fails = low_begins_none c.args.meaning c.in-Unicode.is test c.args.byte (omega (arith, c.if-byte-lt128.true)) (same ∙ fails)

pub returns-then-is_wide : goal.returns-then-is_wide
returns-then-is_wide c test same wide fails =
    high_begins_none c.args.meaning c.in-Unicode.is test c.args.byte (omega (arith, c.if-byte-lt128.false)) (λ lead. absurd (true≢false (sym (le-leb 192 c.args.byte lead) ∙ fails)))
