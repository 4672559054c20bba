use Rattle.fancy_search.proofs.SearchedLemmas.{found_unasked, found_ungrouped}
use Rattle.fancy_search.proofs.program.Program.without_groups.Goals as goal

pub returns-then-self-clause-answer : goal.returns-then-self-clause-answer
returns-then-self-clause-answer c m answer runner machine is = found_ungrouped c.args.self.now.code m answer (c.args.self.now.alone c.if-self.true) is

pub returns-else-self-clause-answer : goal.returns-else-self-clause-answer
returns-else-self-clause-answer c m answer runner machine is = found_unasked c.args.self.now.code m answer is
