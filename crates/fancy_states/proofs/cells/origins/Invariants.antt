use Rattle.std.proofs.Common.{◌≡◌, map, take}
use Rattle.fancy_states.specs.Steps.{from_of}
use Rattle.fancy_states.proofs.cells.origins.Given as goal

abbrev pub invariant-loop-way : goal.invariant-loop-way
invariant-loop-way l = l.came.items ≡ map from_of (take l.way-index l.next)
