use Rattle.std.proofs.Common.{◌+◌, arith}
use Rattle.fancy_prefilter.specs.NextOpening.{by_opening}
use Rattle.fancy_prefilter.proofs.NextLemmas.{next_first, next_seen, none_past}
use Rattle.fancy_prefilter.proofs.candidates.next_by_sets.Goals as goal

pub loop-place-init : goal.loop-place-init
loop-place-init c =
    next_first c.args.prefilter.now c.args.haystack.now c.args.range_end c.args.from c.args.last c.candidate_from-place.result c.candidate_from-place.ensures

pub loop-place-preserved : goal.loop-place-preserved
loop-place-preserved c =
    let before = c.loop-place.invariant in
    next_seen c.args.prefilter.now c.args.haystack.now c.args.range_end c.args.from c.args.last (c.loop-place.place + 1) _ (omega (arith, before.passed))
    (none_past c.args.prefilter.now c.args.haystack.now c.args.range_end c.args.from c.loop-place.place before.none (by_opening (c.may_open.ensures c.if-not-may_open.true c.args.range_end)))
    c.candidate_from-place-in-loop-place.ensures
