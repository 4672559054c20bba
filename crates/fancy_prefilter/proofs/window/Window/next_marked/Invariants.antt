use Rattle.std.proofs.Common.{◌-◌, ◌≤◌}
use Rattle.fancy_prefilter.specs.Windows.{NoneStandsIn}
use Rattle.fancy_prefilter.proofs.window.Window.next_marked.Given as goal

abbrev pub invariant-loop-place : goal.invariant-loop-place
invariant-loop-place l = record {
  passed : l.from ≤ l.place;
  none : NoneStandsIn l.self l.haystack l.end l.from l.place;
}

abbrev pub decreases-loop-place : goal.decreases-loop-place
decreases-loop-place l = l.end - l.place
