use Rattle.fancy_splits.proofs.front.+front.Given as goal

abbrev pub decreases-front_from : goal.decreases-front_from
decreases-front_from l = l.deep
