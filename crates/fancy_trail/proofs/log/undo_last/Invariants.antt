use Rattle.std.proofs.Common.{◌≡◌, ◌≤◌, drop, take}
use Rattle.std.specs.Prelude.{vec_len}
use Rattle.fancy_trail.specs.Log.{old_cell, undone_by}
use Rattle.fancy_trail.proofs.log.undo_last.Given as goal

abbrev pub invariant-writes : goal.invariant-writes
invariant-writes l = record {
  long : l.down ≤ vec_len l.log;
  most : vec_len l.log ≤ vec_len l.fn.log;
  kept : l.log.items ≡ take (vec_len l.log) l.fn.log.items;
  cells : l.cells.items ≡ undone_by old_cell l.fn.cells.items (drop (vec_len l.log) l.fn.log.items);
}

abbrev pub decreases-writes : goal.decreases-writes
decreases-writes l = vec_len l.log
