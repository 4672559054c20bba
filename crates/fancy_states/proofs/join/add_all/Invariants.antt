use Rattle.std.proofs.Common.{◌≡◌, ◌+◌, ◌≤◌, ◌++◌, List, length, take}
use Rattle.fancy_states.specs.declared.way.Way.{Way}
use Rattle.fancy_states.specs.Joins.{Thinned}
use Rattle.fancy_states.proofs.join.add_all.Given as goal

abbrev pub invariant-loop-way : goal.invariant-loop-way
invariant-loop-way l = record {
  thinned : (whole : List Way) → Thinned l.fn.marks whole l.fn.next.items → Thinned l.marks (whole ++ take l.way-index l.ways) l.next.items;
  more : length l.next.items ≤ length l.fn.next.items + l.way-index;
  room : length l.marks ≡ length l.fn.marks;
}
