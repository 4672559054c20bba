use Rattle.std.proofs.Common.{arith}
use Rattle.std.proofs.lemmas.List.{length-map}
use Rattle.fancy_code.specs.Instructions.{with_set}
use Rattle.fancy_code.proofs.code.Code.mark_number.Goals as goal

pub number-requires : goal.number-requires
number-requires c = omega (arith, c.requires, c.args.self.now.marked, length-map c.args.self.now.instrs.items (with_set c.args.self.now.sets.items))
