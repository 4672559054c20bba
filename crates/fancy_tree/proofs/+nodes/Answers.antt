use Rattle.std.proofs.Common.{map, arith}
use Rattle.std.proofs.lemmas.Grind.{common_steps}
use Rattle.fancy_tree.specs.Pattern.{pattern_of}
use Rattle.fancy_tree.proofs.PatternLemmas.{pattern-Concat, pattern-Alternation}
use Rattle.fancy_tree.proofs.SizeLemmas.{nodes-in_sequence, nodes-in_choice}
use Rattle.fancy_tree.proofs.+nodes.Goals as goal

pub tree::Tree::nodes-returns-in-Concat : goal.tree::Tree::nodes-returns-in-Concat
tree::Tree::nodes-returns-in-Concat t c =
    rw (c.in-Concat.is, pattern-Concat)
    (grind (arith, common_steps, nodes-in_sequence (map pattern_of c.in-Concat.parts.items)))

pub tree::Tree::nodes-returns-in-Alternation : goal.tree::Tree::nodes-returns-in-Alternation
tree::Tree::nodes-returns-in-Alternation t c =
    rw (c.in-Alternation.is, pattern-Alternation)
    (grind (arith, common_steps, nodes-in_choice (map pattern_of c.in-Alternation.branches.items)))
