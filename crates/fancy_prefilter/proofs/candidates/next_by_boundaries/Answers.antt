use Rattle.std.proofs.Common.{arith}
use Rattle.fancy_prefilter.proofs.NextLemmas.{next_first, next_seen, none_inside}
use Rattle.fancy_prefilter.proofs.candidates.next_by_boundaries.Goals as goal

pub loop-place-init : goal.loop-place-init
loop-place-init c =
    next_first c.args.prefilter.now c.args.haystack.now c.args.range_end c.args.from c.args.last c.candidate_from-place.result c.candidate_from-place.ensures

pub loop-place-preserved : goal.loop-place-preserved
loop-place-preserved c =
    let before = c.loop-place.invariant in
    next_seen c.args.prefilter.now c.args.haystack.now c.args.range_end c.args.from c.args.last c.past_word-past.result _ (omega (arith, before.passed, c.past_word-past.ensures.forth))
    (none_inside c.args.prefilter.now c.args.others.now c.args.haystack.now c.args.range_end c.args.from c.loop-place.place c.past_word-past.result c.requires.words before.none c.past_word-past.ensures.none)
    c.candidate_from-place-in-loop-place.ensures
