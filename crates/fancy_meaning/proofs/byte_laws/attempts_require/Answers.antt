use Rattle.fancy_meaning.specs.Search.{context_of, initial}
use Rattle.fancy_meaning.specs.Stands.{Stands}
use Rattle.fancy_meaning.proofs.BeginLemmas.{accepted_holds}
use Rattle.fancy_meaning.proofs.RequireLemmas.{trace_requires}
use Rattle.fancy_meaning.proofs.byte_laws.attempts_require.Goals as goal

pub returns : goal.returns
returns c q p b h e =
    accepted_holds q p (λ t. Stands q.haystack b) h
    (trace_requires (context_of q) b q.sought.pattern e q.request.range_end (initial q p))
