use Rattle.std.proofs.Common.{arith, ◌-◌}
use Rattle.fancy_prefilter.proofs.NextLemmas.{none_followed}
use Rattle.fancy_prefilter.proofs.candidates.next_line.Goals as goal

pub returns-in-None-clause-none : goal.returns-in-None-clause-none
returns-in-None-clause-none c k low high = none_followed c.args.feeds.now c.args.haystack.now (c.args.from - 1) c.args.last k c.in-None.ensures (omega (arith, low, c.if-from-eq0.false)) (omega (arith, high))

pub returns-in-Some-clause-none : goal.returns-in-Some-clause-none
returns-in-Some-clause-none c k low high =
    none_followed c.args.feeds.now c.args.haystack.now (c.args.from - 1) c.in-Some.feed k c.in-Some.ensures.none (omega (arith, low, c.if-from-eq0.false)) (omega (arith, high))
