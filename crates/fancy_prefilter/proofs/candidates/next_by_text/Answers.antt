use Rattle.fancy_prefilter.specs.declared.prefilter.Opening.TheVariants.{Text}
use Rattle.fancy_prefilter.proofs.NextLemmas.{lacks_told, next_text}
use Rattle.fancy_prefilter.proofs.candidates.next_by_text.Goals as goal

pub returns : goal.returns
returns c =
    next_text c.args.prefilter.now c.args.haystack.now c.args.range_end c.args.from c.args.last c.candidate_from-place.result c.candidate_from-place.ensures
    c.literal_from.result c.literal_from.ensures.passed c.literal_from.ensures.within
    (λ k low high. lacks_told c.args.prefilter.now (Text c.args.literal.now) c.args.haystack.now c.args.range_end k c.requires.opening (c.literal_from.ensures.none k low high))
