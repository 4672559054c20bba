use Rattle.fancy_syntax.proofs.NameNumbers.{names_rise}
use Rattle.fancy_syntax.proofs.laws.names_are_numbered.Goals as goal

pub returns : goal.returns
returns c = names_rise
