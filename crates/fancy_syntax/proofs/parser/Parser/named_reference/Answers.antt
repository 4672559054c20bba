use Rattle.std.proofs.Common.{arith}
use Rattle.std.proofs.lemmas.Grind.{common_steps}
use Rattle.fancy_syntax.proofs.parser.Parser.named_reference.Goals as goal

pub invariant_of-self : goal.invariant_of-self
invariant_of-self c = grind (arith, common_steps)

pub returns-in_ok-push-in-41-clause-value : goal.returns-in_ok-push-in-41-clause-value
returns-in_ok-push-in-41-clause-value c = grind (arith, common_steps)

pub returns-in_ok-push-in-41-clause-progress : goal.returns-in_ok-push-in-41-clause-progress
returns-in_ok-push-in-41-clause-progress c = grind (arith, common_steps)
