use Rattle.fancy_prefilter.proofs.NextLemmas.{next_first}
use Rattle.fancy_prefilter.proofs.candidates.next_by_opening.Goals as goal

pub returns-in-Untold : goal.returns-in-Untold
returns-in-Untold c =
    next_first c.args.prefilter.now c.args.haystack.now c.args.range_end c.args.from c.args.last c.candidate_from.result c.candidate_from.ensures
