use Rattle.fancy_tree.specs.Sets.{has}
use Rattle.fancy_code.specs.Instructions.{edges_in}
use Rattle.fancy_code.specs.Items.{AreItems}
use Rattle.fancy_code.proofs.items.bytes_of_set.Given as goal

abbrev pub invariant-loop-byte : goal.invariant-loop-byte
invariant-loop-byte l = AreItems l.fn.meaning (has (edges_in l.fn.set)) l.items
