use Rattle.fancy_core.proofs.PieceLemmas.{rejoin}
use Rattle.fancy_regex.proofs.laws.pieces_rejoin.Goals as goal

pub returns : goal.returns
returns c = rejoin
