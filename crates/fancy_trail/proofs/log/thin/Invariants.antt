use Rattle.std.proofs.Common.{◌≡◌, map, drop}
use Rattle.std.proofs.lemmas.List.Filters.{FiltersInPlace}
use Rattle.fancy_trail.specs.Log.{cell_slot, cell_level, is_kept, lowered}
use Rattle.fancy_trail.proofs.log.thin.Given as goal

abbrev pub invariant-writes : goal.invariant-writes
invariant-writes l = record {
  filters : FiltersInPlace (is_kept l.level) l.fn.log.items l.log.items l.kept l.index;
  slots : map cell_slot l.cells.items ≡ map cell_slot l.fn.cells.items;
  levels : lowered l.level (map cell_level l.cells.items) (drop l.index l.fn.log.items) ≡ lowered l.level (map cell_level l.fn.cells.items) (drop l.from l.fn.log.items);
}
