use Rattle.std.proofs.Common.{◌≡◌, ◌+◌, length}
use Rattle.fancy_class.specs.EscapeGrammar.{letters}
use Rattle.fancy_class.proofs.posix.letters.Given as goal

abbrev pub invariant-loop-rest : goal.invariant-loop-rest
invariant-loop-rest l = record {
  counted : l.count + letters l.rest ≡ letters l.text;
  len : l.count + length l.rest ≡ length l.text;
}

abbrev pub decreases-loop-rest : goal.decreases-loop-rest
decreases-loop-rest l = length l.rest
