use Rattle.fancy_regex.proofs.ListExampleLemmas.{lists}
use Rattle.fancy_regex.proofs.laws.worked_lists.Goals as goal

pub returns : goal.returns
returns c = lists
