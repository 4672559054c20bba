use Rattle.std.proofs.Common.{arith, rules}
use Rattle.fancy_core.proofs.SplitLemmas.{few_turns}
use Rattle.fancy_core.proofs.regex.Regex.split.Goals as goal

pub returns-clause-countable : goal.returns-clause-countable
returns-clause-countable c = few_turns c.args.self.now.program c.args.text.now _ _ _ _ _ (omega arith) (search rules) (search rules) (search rules) (search rules) (search rules)
