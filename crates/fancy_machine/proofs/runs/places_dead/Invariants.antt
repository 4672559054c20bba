use Rattle.std.proofs.Common.{◌-◌, ◌<◌, ℕ}
use Rattle.fancy_machine.specs.Attempt.{DiesAt}
use Rattle.fancy_machine.proofs.runs.places_dead.Given as goal

abbrev pub invariant-places : goal.invariant-places
invariant-places l = (k : ℕ) → k < l.past → DiesAt l.attempt l.run.at (l.run.last - k)
