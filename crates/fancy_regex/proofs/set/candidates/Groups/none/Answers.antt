use Rattle.fancy_regex.proofs.CandidateLemmas.{nothing_there}
use Rattle.fancy_regex.proofs.set.candidates.Groups.none.Goals as goal

pub returns : goal.returns
returns c = nothing_there
