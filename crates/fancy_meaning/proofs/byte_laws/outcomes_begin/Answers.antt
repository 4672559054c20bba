use Rattle.fancy_meaning.proofs.BeginLemmas.{trace_begins}
use Rattle.fancy_meaning.proofs.byte_laws.outcomes_begin.Goals as goal

pub returns : goal.returns
returns c = trace_begins
