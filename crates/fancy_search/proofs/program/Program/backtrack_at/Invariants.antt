use Rattle.fancy_code.specs.Queries.{query_of}
use Rattle.fancy_search.proofs.program.Program.backtrack_at.Given as goal

abbrev pub ghost-attempt_at : goal.ghost-attempt_at
ghost-attempt_at g a = query_of g.p a.asked.now.code.now a.asked.now.options.now a.haystack.now a.asked.now.request a.asked.now.continues
