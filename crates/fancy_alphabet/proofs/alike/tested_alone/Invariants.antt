use Rattle.std.proofs.Common.{◌≡◌, length}
use Rattle.fancy_code.specs.Code.{instrs_of}
use Rattle.fancy_alphabet.proofs.AlikeLemmas.{AloneBelow}
use Rattle.fancy_alphabet.proofs.alike.tested_alone.Given as goal

abbrev pub invariant-loop-at : goal.invariant-loop-at
invariant-loop-at l = (length l.alone.items ≡ 128) × AloneBelow (instrs_of l.code) l.at l.alone.items
