use Rattle.std.proofs.Common.{arith}
use Rattle.std.proofs.lemmas.Grind.{common_steps}
use Rattle.fancy_tree.proofs.sharing.case_variants.Goals as goal

pub returns : goal.returns
returns c = grind (arith, common_steps)
