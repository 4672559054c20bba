use Rattle.fancy_meaning.proofs.SearchLemmas.{accepted-is, is-accepted}
use Rattle.fancy_meaning.proofs.laws.acceptance_is_decided.Goals as goal

pub returns : goal.returns
returns c q p s = (accepted-is q p s, is-accepted q p s)
