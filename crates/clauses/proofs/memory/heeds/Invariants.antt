use Rattle.clauses.proofs.memory.heeds.Given as goal

abbrev pub ghost-search : goal.ghost-search
ghost-search g a = g.q
