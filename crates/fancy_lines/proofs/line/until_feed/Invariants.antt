use Rattle.std.proofs.Common.{◌≡◌, take, drop, ◌++◌}
use Rattle.fancy_lines.specs.LineColumns.{until_break}
use Rattle.fancy_lines.proofs.line.until_feed.Given as goal

abbrev pub invariant-loop-at : goal.invariant-loop-at
invariant-loop-at l = until_break l.text ≡ take l.at l.text ++ until_break (drop l.at l.text)
