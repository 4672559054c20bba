use Rattle.std.proofs.Common.{◌≡◌, ◌<◌, ℕ, map, get_or}
use Rattle.fancy_trail.specs.Log.{cell_slot, cell_level}
use Rattle.fancy_trail.proofs.log.forget_levels.Given as goal

abbrev pub invariant-cells : goal.invariant-cells
invariant-cells l = record {
  slots : map cell_slot l.cells.items ≡ map cell_slot l.fn.cells.items;
  levels : (number : ℕ) → number < l.index → get_or (map cell_level l.cells.items) number 0 ≡ 0;
}
