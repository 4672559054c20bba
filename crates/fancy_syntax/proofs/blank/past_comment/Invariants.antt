use Rattle.std.proofs.Common.{◌≡◌, drop}
use Rattle.fancy_syntax.specs.Blanks.{past_comment}
use Rattle.fancy_syntax.proofs.blank.past_comment.Given as goal

abbrev pub invariant-loop-i : goal.invariant-loop-i
invariant-loop-i l = past_comment l.text ≡ past_comment (drop l.i l.text)
