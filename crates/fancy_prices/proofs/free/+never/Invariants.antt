use Rattle.fancy_prices.proofs.free.+never.Given as goal

abbrev pub decreases-stops_never_behind : goal.decreases-stops_never_behind
decreases-stops_never_behind l = l.deep
