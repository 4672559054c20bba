use Rattle.fancy_meaning.proofs.SearchLemmas.{none-is_none}
use Rattle.fancy_meaning.proofs.laws.none_is_none.Goals as goal

pub returns : goal.returns
returns c = none-is_none
