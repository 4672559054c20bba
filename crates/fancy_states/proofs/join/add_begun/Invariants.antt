use Rattle.std.proofs.Common.{◌≡◌, ◌+◌, ◌≤◌, ◌++◌, List, length, take}
use Rattle.fancy_states.specs.declared.way.Way.{Way}
use Rattle.fancy_states.specs.Joins.{Thinned, all_from}
use Rattle.fancy_states.proofs.join.add_begun.Given as goal

abbrev pub invariant-loop-at : goal.invariant-loop-at
invariant-loop-at l = record {
  thinned : (whole : List Way) → Thinned l.fn.marks whole l.fn.next.items → Thinned l.marks (whole ++ all_from l.from (take l.at-index l.ats)) l.next.items;
  more : length l.next.items ≤ length l.fn.next.items + l.at-index;
  room : length l.marks ≡ length l.fn.marks;
}
