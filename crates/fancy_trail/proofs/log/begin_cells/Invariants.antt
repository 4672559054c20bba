use Rattle.std.proofs.Common.{◌≡◌, replicate}
use Rattle.fancy_trail.specs.Log.{empty_cell}
use Rattle.fancy_trail.proofs.log.begin_cells.Given as goal

abbrev pub invariant-cells : goal.invariant-cells
invariant-cells l = l.cells.items ≡ replicate l.counter empty_cell
