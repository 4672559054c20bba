use Rattle.std.proofs.Common.{◌≡◌, drop}
use Rattle.fancy_syntax.specs.Blanks.{past_line}
use Rattle.fancy_syntax.proofs.blank.past_line.Given as goal

abbrev pub invariant-loop-i : goal.invariant-loop-i
invariant-loop-i l = past_line l.text ≡ past_line (drop l.i l.text)
