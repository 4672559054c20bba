use Rattle.fancy_regex.proofs.SetExampleLemmas.{sets}
use Rattle.fancy_regex.proofs.laws.worked_sets.Goals as goal

pub returns : goal.returns
returns c = sets
