use Rattle.std.proofs.Common.{◌≡◌, take}
use Rattle.fancy_lines.specs.LineColumns.{starts_after}
use Rattle.fancy_lines.proofs.index.starts_of.Given as goal

abbrev pub invariant-loop-at : goal.invariant-loop-at
invariant-loop-at l = l.starts.items ≡ starts_after 0 (take l.at l.text)
