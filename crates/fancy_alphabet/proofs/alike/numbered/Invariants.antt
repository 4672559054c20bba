use Rattle.std.proofs.Common.{◌≤◌, length}
use Rattle.fancy_alphabet.proofs.AlikeLemmas.{EachTo, IsNumber}
use Rattle.fancy_alphabet.proofs.alike.numbered.Given as goal

abbrev pub invariant-loop-byte : goal.invariant-loop-byte
invariant-loop-byte l = (length l.members.items ≤ l.byte) × EachTo (IsNumber l.stands l.members.items) l.byte l.columns.items
