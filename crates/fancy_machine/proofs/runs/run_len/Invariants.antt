use Rattle.std.proofs.Common.{◌-◌}
use Rattle.fancy_machine.specs.Runs.{HasItems}
use Rattle.fancy_machine.proofs.runs.run_len.Given as goal

abbrev pub invariant-items : goal.invariant-items
invariant-items l = HasItems l.split l.haystack l.place (l.past - l.place)
