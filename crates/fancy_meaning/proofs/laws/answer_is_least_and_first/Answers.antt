use Rattle.fancy_meaning.proofs.SearchLemmas.{answer-is}
use Rattle.fancy_meaning.proofs.laws.answer_is_least_and_first.Goals as goal

pub returns : goal.returns
returns c = answer-is
