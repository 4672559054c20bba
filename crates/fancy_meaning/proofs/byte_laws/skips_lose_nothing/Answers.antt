use Rattle.fancy_meaning.proofs.SkipLemmas.{skips_lose_nothing}
use Rattle.fancy_meaning.proofs.byte_laws.skips_lose_nothing.Goals as goal

pub returns : goal.returns
returns c = skips_lose_nothing
