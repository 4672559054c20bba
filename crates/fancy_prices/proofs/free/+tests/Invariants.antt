use Rattle.fancy_prices.proofs.free.+tests.Given as goal

abbrev pub decreases-tests_before : goal.decreases-tests_before
decreases-tests_before l = l.deep
