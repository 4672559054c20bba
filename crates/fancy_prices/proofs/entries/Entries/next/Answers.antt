use Rattle.std.proofs.Common.{◌+◌, ◌∙◌, arith, sym}
use Rattle.fancy_prices.specs.Entries.{unboxed}
use Rattle.fancy_prices.proofs.EntryLemmas.{next_entry, next_past, passed_one}
use Rattle.fancy_prices.proofs.entries.Entries.next.Goals as goal

pub returns : goal.returns
returns c =
    next_entry c.in-Some.told.now c.args.haystack.now (unboxed c.args.self.now.told) c.in-Some.ensures c.args.range_end c.args.from c.args.last c.min-end.result c.next_ahead.result
    (omega (arith, c.min-end.ensures)) (omega (arith, c.min-end.ensures))
    (next_past c.in-Some.told.now c.args.haystack.now c.args.from (c.args.from + 1) c.min-end.result c.next_ahead.result (omega arith)
    (passed_one c.in-Some.told.now c.args.haystack.now c.args.from c.args.from (λ k low high. absurd (omega (arith, low, high))) (sym c.is_costly.ensures ∙ c.if-is_costly.false))
    c.next_ahead.ensures)

pub returns-then-is_some : goal.returns-then-is_some
returns-then-is_some c =
    next_entry c.in-Some.told.now c.args.haystack.now (unboxed c.args.self.now.told) c.in-Some.ensures c.args.range_end c.args.from c.args.last c.min-end.result c.next_far.result
    (omega (arith, c.min-end.ensures)) (omega (arith, c.min-end.ensures)) c.next_far.ensures
