use Rattle.fancy_runner.proofs.start.follow_from.Goals as goal

pub returns-clause-left : goal.returns-clause-left
returns-clause-left c = rw c.in_ok-begin_with.ensures.slots at c.follow.ensures.left
