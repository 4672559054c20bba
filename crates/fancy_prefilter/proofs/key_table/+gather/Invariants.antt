use Rattle.std.proofs.Common.{length}
use Rattle.fancy_prefilter.proofs.key_table.+gather.Given as goal

abbrev pub decreases-gather : goal.decreases-gather
decreases-gather l = length l.sets.now
