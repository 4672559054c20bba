use Rattle.fancy_prefilter.specs.Seeks.{NoneSeenBefore}
use Rattle.fancy_prefilter.proofs.seek.next_seen.Given as goal

abbrev pub invariant-loop-place : goal.invariant-loop-place
invariant-loop-place l = NoneSeenBefore l.set l.haystack l.from l.place
