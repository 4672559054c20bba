use Rattle.fancy_meaning.proofs.ExampleLemmas.{examples}
use Rattle.fancy_meaning.proofs.laws.worked_examples.Goals as goal

pub returns : goal.returns
returns c = examples
