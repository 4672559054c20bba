use Rattle.std.proofs.Common.{arith}
use Rattle.std.proofs.lemmas.Grind.{common_steps}
use Rattle.fancy_tree.proofs.PatternLemmas.{pattern_equations}
use Rattle.fancy_syntax.proofs.parser.Parser.conditional.Goals as goal

pub returns-in_ok-condition-in-Some-clause-value : goal.returns-in_ok-condition-in-Some-clause-value
returns-in_ok-condition-in-Some-clause-value c = grind (arith, common_steps, pattern_equations)
