use Rattle.std.proofs.Common.{◌≡◌}
use Rattle.fancy_code.specs.Instructions.{edges_in}
use Rattle.fancy_alphabet.specs.Alike.{is_member}
use Rattle.fancy_alphabet.proofs.AlikeLemmas.{EachMark}
use Rattle.fancy_alphabet.proofs.alike.members_of.Given as goal

abbrev pub invariant-loop-byte : goal.invariant-loop-byte
invariant-loop-byte l = EachMark (λ byte mark. mark ≡ is_member (edges_in l.set) byte) l.byte l.marks.items
