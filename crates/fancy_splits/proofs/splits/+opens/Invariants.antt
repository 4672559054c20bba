use Rattle.fancy_splits.proofs.splits.+opens.Given as goal

abbrev pub decreases-opens_choice : goal.decreases-opens_choice
decreases-opens_choice l = l.deep
