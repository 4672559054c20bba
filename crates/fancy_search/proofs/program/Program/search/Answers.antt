use Rattle.fancy_search.proofs.program.Program.search.Goals as goal

pub search_next-requires-clause-known : goal.search_next-requires-clause-known
search_next-requires-clause-known c = c.new-known.ensures _
