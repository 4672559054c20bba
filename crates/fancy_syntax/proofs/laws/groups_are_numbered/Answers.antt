use Rattle.fancy_syntax.proofs.GroupLemmas.{numbered}
use Rattle.fancy_syntax.proofs.OrderLemmas.{in_order}
use Rattle.fancy_syntax.proofs.laws.groups_are_numbered.Goals as goal

pub returns : goal.returns
returns c = record { within = numbered; in_order = in_order }
