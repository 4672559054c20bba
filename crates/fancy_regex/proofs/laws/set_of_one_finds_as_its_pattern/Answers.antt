use Rattle.fancy_regex.proofs.SetOfOneLemmas.{finds_as_one}
use Rattle.fancy_regex.proofs.laws.set_of_one_finds_as_its_pattern.Goals as goal

pub returns : goal.returns
returns g c = finds_as_one _ _ _
