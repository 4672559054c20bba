use Rattle.fancy_prefilter.specs.declared.prefilter.Opening.TheVariants.{Window}
use Rattle.fancy_prefilter.proofs.NextLemmas.{lacks_told, next_first, next_nowhere, next_seen}
use Rattle.fancy_prefilter.proofs.candidates.next_by_window.Goals as goal

pub returns-then-last-range_end : goal.returns-then-last-range_end
returns-then-last-range_end c =
    next_first c.args.prefilter.now c.args.haystack.now c.args.range_end c.args.from c.args.last c.candidate_from.result c.candidate_from.ensures

pub returns-in-None : goal.returns-in-None
returns-in-None c =
    next_nowhere c.args.prefilter.now c.args.haystack.now c.args.range_end c.args.from c.args.last c.requires.ordered
    (λ k low. lacks_told c.args.prefilter.now (Window c.args.window.now) c.args.haystack.now c.args.range_end k c.requires.opening (c.in-None.ensures k low))

pub returns-in-Some : goal.returns-in-Some
returns-in-Some c =
    next_seen c.args.prefilter.now c.args.haystack.now c.args.range_end c.args.from c.args.last c.in-Some.seen c.candidate_from-in-Some.result
    c.in-Some.ensures.0
    (λ k low high. lacks_told c.args.prefilter.now (Window c.args.window.now) c.args.haystack.now c.args.range_end k c.requires.opening (c.in-Some.ensures.3 k low high))
    c.candidate_from-in-Some.ensures
