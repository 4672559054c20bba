use Rattle.std.proofs.Common.{◌*◌}
use Rattle.fancy_tree.specs.CharSet.{IsTable}
use Rattle.fancy_tree.specs.Sets.{has}
use Rattle.fancy_tree.specs.SetViews.{Cut}
use Rattle.fancy_tree.proofs.table.fill.Given as goal

abbrev pub invariant-loop-i : goal.invariant-loop-i
invariant-loop-i l = record {
  cut : Cut l.edges l.passed (64 * l.i);
  table : IsTable l.words l.i (has l.edges);
}
