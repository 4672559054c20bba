use Rattle.fancy_machine.proofs.search.try_position.Given as goal

abbrev pub ghost-finds_at : goal.ghost-finds_at
ghost-finds_at g a = g.q
