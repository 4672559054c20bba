use Rattle.fancy_meaning.proofs.FoundLemmas.{answer_within, answer_on_boundaries}
use Rattle.fancy_meaning.proofs.laws.groups_lie_within.Goals as goal

pub returns : goal.returns
returns c q f range e = (answer_within q f range e, λ keeps. answer_on_boundaries q f range keeps e)
