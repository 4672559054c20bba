use Rattle.fancy_meaning.proofs.KeptForward.{kept_forward}
use Rattle.fancy_meaning.proofs.laws.starts_are_kept_forward.Goals as goal

pub returns : goal.returns
returns c = kept_forward
