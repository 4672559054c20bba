use Rattle.std.proofs.Common.{arith}
use Rattle.std.proofs.lemmas.Grind.{common_steps}
use Rattle.fancy_syntax.proofs.parser.Parser.lexeme.Goals as goal

pub returns-in-92-clause-value : goal.returns-in-92-clause-value
returns-in-92-clause-value c = grind (arith, common_steps)

pub returns-in-len1-up-clause-value : goal.returns-in-len1-up-clause-value
returns-in-len1-up-clause-value c = grind (arith, common_steps)
