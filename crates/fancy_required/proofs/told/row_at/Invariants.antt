use Rattle.std.proofs.Common.{drop, map, ◌++◌}
use Rattle.fancy_required.specs.Told.{TellsLess}
use Rattle.fancy_required.specs.declared.told.Told.TheVariants.{Among}
use Rattle.fancy_required.proofs.told.row_at.Given as goal

abbrev pub invariant-loop-i : goal.invariant-loop-i
invariant-loop-i l = TellsLess (map Among l.row.items ++ drop l.i l.told) (drop l.from l.told)
