use Rattle.std.proofs.Common.{refl}
use Rattle.fancy_search.proofs.KeptTablesLemmas.{keeps_nothing}
use Rattle.fancy_search.proofs.searcher.Searcher.resume.Goals as goal

pub returns-clause-keeps : goal.returns-clause-keeps
returns-clause-keeps g c program cache running = keeps_nothing program _ cache _ _ _ refl

pub invariant_of-result-clause-looked : goal.invariant_of-result-clause-looked
invariant_of-result-clause-looked g c = c.new.ensures _
