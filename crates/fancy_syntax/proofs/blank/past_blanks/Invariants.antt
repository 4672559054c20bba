use Rattle.std.proofs.Common.{◌≡◌, length}
use Rattle.fancy_syntax.specs.Grammar.{past_blanks}
use Rattle.fancy_syntax.proofs.blank.past_blanks.Given as goal

abbrev pub invariant-loop-after : goal.invariant-loop-after
invariant-loop-after l = past_blanks l.fn.ignore_blanks l.fn.text ≡ past_blanks l.fn.ignore_blanks l.rest

abbrev pub decreases-loop-after : goal.decreases-loop-after
decreases-loop-after l = length l.rest
