use Rattle.std.proofs.Common.{◌≡◌, ◌≤◌, length}
use Rattle.fancy_class.specs.ClassViews.{capped_number}
use Rattle.fancy_class.proofs.escape.hexadecimal.Given as goal

abbrev pub invariant-loop-rest : goal.invariant-loop-rest
invariant-loop-rest l = record {
  read : capped_number l.value l.rest ≡ capped_number 0 l.digits;
  bound : l.value ≤ 0x11_0000;
}

abbrev pub decreases-loop-rest : goal.decreases-loop-rest
decreases-loop-rest l = length l.rest
