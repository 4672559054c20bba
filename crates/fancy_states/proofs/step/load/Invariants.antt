use Rattle.std.proofs.Common.{◌≡◌, drop, reverse}
use Rattle.fancy_states.specs.Steps.{waiting}
use Rattle.fancy_states.proofs.step.load.Given as goal

abbrev pub invariant-loop-from : goal.invariant-loop-from
invariant-loop-from l = reverse l.stack.items ≡ waiting l.from (drop l.from l.ways)
