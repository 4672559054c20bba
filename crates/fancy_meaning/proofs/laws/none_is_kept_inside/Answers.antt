use Rattle.fancy_meaning.proofs.KeptLemmas.{keeps_none_inside}
use Rattle.fancy_meaning.proofs.laws.none_is_kept_inside.Goals as goal

pub returns : goal.returns
returns c = keeps_none_inside
