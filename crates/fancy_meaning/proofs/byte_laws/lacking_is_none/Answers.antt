use Rattle.fancy_meaning.proofs.SkipLemmas.{lacking_is_none}
use Rattle.fancy_meaning.proofs.byte_laws.lacking_is_none.Goals as goal

pub returns : goal.returns
returns c = lacking_is_none
