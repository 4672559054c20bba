use Rattle.std.proofs.Common.{arith, rules}
use Rattle.fancy_core.proofs.SplitLemmas.{next_of_first}
use Rattle.fancy_core.proofs.split.limited.SplitNIterator.next.Goals as goal

pub returns-else-self-eq0-2-clause-steps : goal.returns-else-self-eq0-2-clause-steps
returns-else-self-eq0-2-clause-steps c = next_of_first c.args.self.now c.next.result c.next.new.self (omega arith) (search rules) c.next.ensures.steps
