use Rattle.std.proofs.Common.{◌≡◌, map, take}
use Rattle.fancy_states.specs.Steps.{at_of}
use Rattle.fancy_states.proofs.rows.gather.Given as goal

abbrev pub invariant-loop-way : goal.invariant-loop-way
invariant-loop-way l = l.ways.items ≡ map at_of (take l.way-index l.next)
