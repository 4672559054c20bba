use Rattle.std.proofs.Common.{arith}
use Rattle.std.proofs.lemmas.Grind.{common_steps}
use Rattle.fancy_syntax.proofs.reference.name_condition.Goals as goal

pub returns-in_ok-name-in-41-clause-value : goal.returns-in_ok-name-in-41-clause-value
returns-in_ok-name-in-41-clause-value c = grind (arith, common_steps)

pub returns-in_ok-name-in-41-clause-shorter : goal.returns-in_ok-name-in-41-clause-shorter
returns-in_ok-name-in-41-clause-shorter c = grind (arith, common_steps)
