use Rattle.std.proofs.Common.{arith}
use Rattle.std.proofs.lemmas.Grind.{common_steps}
use Rattle.fancy_syntax.proofs.parser.Parser.read_named_group.Goals as goal

pub invariant_of-self : goal.invariant_of-self
invariant_of-self c = grind (arith, common_steps)

pub returns-in_ok-push-in-62-clause-value : goal.returns-in_ok-push-in-62-clause-value
returns-in_ok-push-in-62-clause-value c = grind (arith, common_steps)

pub returns-in_ok-push-in-62-clause-progress : goal.returns-in_ok-push-in-62-clause-progress
returns-in_ok-push-in-62-clause-progress c = grind (arith, common_steps)
