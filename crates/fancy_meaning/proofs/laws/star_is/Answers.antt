use Rattle.fancy_meaning.specs.Trace.{trace}
use Rattle.fancy_meaning.proofs.ForwardLemmas.{LeadsOn-trace, star-is}
use Rattle.fancy_meaning.proofs.laws.star_is.Goals as goal

pub returns : goal.returns
returns c x limit greedy body s h = star-is greedy limit (trace x limit body) (LeadsOn-trace x limit body) s h
