use Rattle.fancy_states.proofs.PlainLemmas.{plain_by}
use Rattle.fancy_search.proofs.program.Program.can_follow.Goals as goal

pub returns-clause-plain : goal.returns-clause-plain
returns-clause-plain c e at = plain_by _ (c.args.self.now.followed c.if-not-self.false at)
