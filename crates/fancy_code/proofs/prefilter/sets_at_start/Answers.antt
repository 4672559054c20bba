use Rattle.fancy_code.proofs.ForetoldLemmas.{start_told}
use Rattle.fancy_code.proofs.prefilter.sets_at_start.Goals as goal

pub returns : goal.returns
returns c = start_told c.args.code.now c.in_ok-sets.sets.items c.in_ok-sets.ensures
