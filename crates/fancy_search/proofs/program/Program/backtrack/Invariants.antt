use Rattle.fancy_code.specs.Queries.{query_of}
use Rattle.fancy_search.proofs.program.Program.backtrack.Given as goal

abbrev pub ghost-search : goal.ghost-search
ghost-search g a = query_of g.p a.asked.now.code.now a.asked.now.options.now a.haystack.now a.asked.now.request a.asked.now.continues
