use Rattle.std.proofs.Common.{◌≡◌, take, ◌≤◌}
use Rattle.fancy_lines.specs.LineColumns.{since_break}
use Rattle.fancy_lines.proofs.line.since_feed.Given as goal

abbrev pub invariant-loop-at : goal.invariant-loop-at
invariant-loop-at l = (l.count ≡ since_break 0 (take l.at l.text)) × (l.count ≤ l.at)
