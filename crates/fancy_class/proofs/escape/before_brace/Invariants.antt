use Rattle.std.proofs.Common.{◌≡◌, ◌+◌, length}
use Rattle.fancy_class.specs.EscapeGrammar.{before_brace}
use Rattle.fancy_class.proofs.escape.before_brace.Given as goal

abbrev pub invariant-loop-rest : goal.invariant-loop-rest
invariant-loop-rest l = record {
  counted : l.count + before_brace l.rest ≡ before_brace l.text;
  len : l.count + length l.rest ≡ length l.text;
}

abbrev pub decreases-loop-rest : goal.decreases-loop-rest
decreases-loop-rest l = length l.rest
