use Rattle.fancy_states.proofs.cells.origin.Goals as goal

pub returns-then-has_origin-clause-rows : goal.returns-then-has_origin-clause-rows
returns-then-has_origin-clause-rows c = c.has_origin.ensures c.if-has_origin.true
