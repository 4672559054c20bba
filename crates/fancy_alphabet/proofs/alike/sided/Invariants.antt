use Rattle.std.proofs.Common.{◌≡◌, ◌↔◌, true}
use Rattle.fancy_alphabet.specs.Sides.{side_of}
use Rattle.fancy_alphabet.proofs.AlikeLemmas.{EachMark}
use Rattle.fancy_alphabet.proofs.alike.sided.Given as goal

abbrev pub invariant-loop-byte : goal.invariant-loop-byte
invariant-loop-byte l = EachMark (λ byte mark. (mark ≡ true) ↔ (side_of byte ≡ l.side)) l.byte l.marks.items
