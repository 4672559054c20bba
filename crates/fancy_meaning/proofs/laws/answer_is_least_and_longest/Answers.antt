use Rattle.fancy_meaning.proofs.LongestLemmas.{longest_answer-is}
use Rattle.fancy_meaning.proofs.laws.answer_is_least_and_longest.Goals as goal

pub returns : goal.returns
returns c = longest_answer-is
