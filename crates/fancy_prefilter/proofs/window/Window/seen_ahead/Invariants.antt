use Rattle.std.proofs.Common.{◌+◌, ◌-◌, ◌<◌, ◌≤◌, length}
use Rattle.fancy_bytes.specs.Rows.{StandsFrom}
use Rattle.fancy_prefilter.specs.Windows.{NoneStandsIn}
use Rattle.fancy_prefilter.specs.HalfTables.{AreMarks}
use Rattle.fancy_prefilter.proofs.window.Window.seen_ahead.Given as goal

abbrev pub invariant-loop-marks : goal.invariant-loop-marks
invariant-loop-marks l = record {
  passed : l.from ≤ l.place;
  none : NoneStandsIn l.self l.haystack l.end l.from l.place;
  inside : 0 < l.marks → l.place + 32 ≤ l.end;
  left : 0 < l.marks → l.place + (length l.self + 31) ≤ l.end;
  marked : 0 < l.marks → AreMarks (λ p. StandsFrom l.self l.haystack l.end 0 p) l.place l.marks;
}

abbrev pub decreases-loop-marks : goal.decreases-loop-marks
decreases-loop-marks l = l.end - l.place
