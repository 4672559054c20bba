use Rattle.fancy_prices.proofs.kinds.+ends.Given as goal

abbrev pub decreases-split_by_ends : goal.decreases-split_by_ends
decreases-split_by_ends l = l.deep
