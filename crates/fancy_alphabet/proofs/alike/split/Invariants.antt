use Rattle.std.proofs.Common.{◌≡◌, length}
use Rattle.fancy_alphabet.proofs.AlikeLemmas.{EachTo, IsChosen}
use Rattle.fancy_alphabet.proofs.alike.split.Given as goal

abbrev pub invariant-loop-byte : goal.invariant-loop-byte
invariant-loop-byte l = (length l.others.items ≡ 128) × EachTo (IsChosen l.stands l.marks) l.byte l.later.items
