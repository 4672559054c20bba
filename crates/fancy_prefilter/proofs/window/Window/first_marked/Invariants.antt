use Rattle.fancy_bytes.specs.Rows.{StandsFrom}
use Rattle.fancy_prefilter.specs.HalfTables.{AreMarks}
use Rattle.fancy_prefilter.proofs.window.Window.first_marked.Given as goal

abbrev pub invariant-loop-left : goal.invariant-loop-left
invariant-loop-left l = AreMarks (λ p. StandsFrom l.self l.haystack l.end 0 p) l.place l.left

abbrev pub decreases-loop-left : goal.decreases-loop-left
decreases-loop-left l = l.left
