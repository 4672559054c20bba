use Rattle.std.proofs.Common.{arith}
use Rattle.std.proofs.lemmas.Grind.{common_steps}
use Rattle.fancy_class.proofs.cursor.Cursor.property_name.Goals as goal

pub returns-then-len-inside-clause-value : goal.returns-then-len-inside-clause-value
returns-then-len-inside-clause-value c = grind (arith, common_steps)

pub returns-else-len-inside-clause-value : goal.returns-else-len-inside-clause-value
returns-else-len-inside-clause-value c = grind (arith, common_steps)
