use Rattle.fancy_meaning.proofs.BeginLemmas.{attempt_begins}
use Rattle.fancy_meaning.proofs.byte_laws.attempts_begin.Goals as goal

pub returns : goal.returns
returns c = attempt_begins
