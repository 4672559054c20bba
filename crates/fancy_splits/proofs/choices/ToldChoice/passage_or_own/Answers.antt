use Rattle.std.proofs.Common.{refl}
use Rattle.fancy_splits.proofs.PassageLemmas.{leads_own}
use Rattle.fancy_splits.proofs.choices.ToldChoice.passage_or_own.Goals as goal

pub returns : goal.returns
returns c code meaning at told = leads_own code meaning c.args.byte at c.args.self.now.first c.args.self.now.second told.splits c.args.self.now c.own.result refl refl c.own.ensures
