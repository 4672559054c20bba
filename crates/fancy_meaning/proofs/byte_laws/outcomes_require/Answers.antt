use Rattle.fancy_meaning.proofs.RequireLemmas.{trace_requires}
use Rattle.fancy_meaning.proofs.byte_laws.outcomes_require.Goals as goal

pub returns : goal.returns
returns c x limit p b s e = trace_requires x b p e limit s
