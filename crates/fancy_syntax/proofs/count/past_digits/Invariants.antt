use Rattle.std.proofs.Common.{◌≡◌, drop}
use Rattle.fancy_syntax.specs.Counts.{past_digits}
use Rattle.fancy_syntax.proofs.count.past_digits.Given as goal

abbrev pub invariant-loop-i : goal.invariant-loop-i
invariant-loop-i l = past_digits l.text ≡ past_digits (drop l.i l.text)
