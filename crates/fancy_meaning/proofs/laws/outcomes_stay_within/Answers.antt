use Rattle.fancy_meaning.proofs.ForwardLemmas.{LeadsOn-trace}
use Rattle.fancy_meaning.proofs.laws.outcomes_stay_within.Goals as goal

pub returns : goal.returns
returns c = LeadsOn-trace
