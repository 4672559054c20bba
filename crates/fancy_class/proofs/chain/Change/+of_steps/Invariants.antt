use Rattle.std.proofs.Common.{length}
use Rattle.fancy_class.proofs.chain.Change.+of_steps.Given as goal

abbrev pub decreases-of_steps : goal.decreases-of_steps
decreases-of_steps l = length l.steps.now
