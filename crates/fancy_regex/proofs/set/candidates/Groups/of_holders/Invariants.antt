use Rattle.fancy_regex.proofs.CandidateLemmas.{HoldFirstAhead}
use Rattle.fancy_regex.proofs.set.candidates.Groups.of_holders.Given as goal

abbrev pub invariant-loop-index : goal.invariant-loop-index
invariant-loop-index l = HoldFirstAhead l.width l.members l.place l.byte l.index l.groups
