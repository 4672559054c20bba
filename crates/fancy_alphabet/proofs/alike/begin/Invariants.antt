use Rattle.std.proofs.Common.{◌<◌}
use Rattle.fancy_alphabet.specs.Alike.{IsFirst}
use Rattle.fancy_alphabet.proofs.AlikeLemmas.{EachTo}
use Rattle.fancy_alphabet.proofs.alike.begin.Given as goal

abbrev pub invariant-loop-byte : goal.invariant-loop-byte
invariant-loop-byte l = (l.rest < 128) × EachTo (IsFirst l.alone) l.byte l.stands.items
