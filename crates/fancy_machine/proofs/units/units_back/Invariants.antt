use Rattle.std.proofs.Common.{◌≡◌, ◌-◌}
use Rattle.fancy_meaning.specs.Context.{Context, units_back}
use Rattle.fancy_machine.specs.Attempt.{reading}
use Rattle.fancy_machine.proofs.units.units_back.Given as goal

abbrev pub invariant-loop-done : goal.invariant-loop-done
invariant-loop-done l = (x : Context) → units_back (reading l.haystack l.meaning x) (l.units - l.done) l.at ≡ units_back (reading l.haystack l.meaning x) l.units l.place
