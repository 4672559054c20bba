use Rattle.std.proofs.Common.{◌+◌}
use Rattle.fancy_machine.specs.Runs.{DieFrom}
use Rattle.fancy_machine.proofs.runs.places_left.Given as goal

abbrev pub invariant-places : goal.invariant-places
invariant-places l = DieFrom l.split l.haystack l.from l.index (l.fn.run.count + 1)
