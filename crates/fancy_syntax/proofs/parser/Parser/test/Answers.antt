use Rattle.fancy_tree.proofs.PatternLemmas.{pattern-Assertion}
use Rattle.fancy_syntax.specs.Views.{place}
use Rattle.fancy_syntax.proofs.LexemeLemmas.{leaf_past}
use Rattle.fancy_syntax.proofs.parser.Parser.test.Goals as goal

pub returns-clause-value : goal.returns-clause-value
returns-clause-value c = leaf_past (place c.args.self.now) c.args.count _ c.skip.ensures.place (pattern-Assertion c.args.test)
