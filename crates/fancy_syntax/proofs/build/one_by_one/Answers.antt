use Rattle.std.proofs.Common.{arith}
use Rattle.std.proofs.lemmas.Grind.{common_steps}
use Rattle.fancy_tree.proofs.PatternLemmas.{pattern_equations}
use Rattle.fancy_syntax.proofs.build.one_by_one.Goals as goal

pub loop-byte-preserved : goal.loop-byte-preserved
loop-byte-preserved c = grind (arith, common_steps, pattern_equations)

pub returns : goal.returns
returns c = grind (arith, common_steps, pattern_equations)
