use Rattle.fancy_syntax.specs.Views.{place}
use Rattle.fancy_syntax.proofs.LexemeLemmas.{boundary_meant}
use Rattle.fancy_syntax.proofs.parser.Parser.boundary.Goals as goal

pub returns-clause-value : goal.returns-clause-value
returns-clause-value c =
    boundary_meant c.boundary-test.result.1 c.test.result (place c.args.self.now) (place c.skip.new.self) (place c.test.new.self) c.skip.ensures.place c.boundary-test.ensures.value c.test.ensures.value
