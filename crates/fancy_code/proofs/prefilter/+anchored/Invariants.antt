use Rattle.fancy_code.proofs.prefilter.+anchored.Given as goal

abbrev pub decreases-is_anchored : goal.decreases-is_anchored
decreases-is_anchored l = l.deep
