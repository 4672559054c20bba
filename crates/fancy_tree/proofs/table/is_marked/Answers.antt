use Rattle.std.proofs.Common.{rules}
use Rattle.std.proofs.lemmas.Nat.Bits.{shr_and_one}
use Rattle.fancy_tree.specs.CharSet.{bit}
use Rattle.fancy_tree.proofs.table.is_marked.Goals as goal

pub returns : goal.returns
unfolding bit
returns c = rw shr_and_one (search rules)
