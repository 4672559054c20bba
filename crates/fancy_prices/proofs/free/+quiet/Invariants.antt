use Rattle.fancy_prices.proofs.free.+quiet.Given as goal

abbrev pub decreases-is_quiet : goal.decreases-is_quiet
decreases-is_quiet l = l.deep
