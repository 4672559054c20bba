use Rattle.fancy_code.proofs.ForetoldLemmas.{some_foretold}
use Rattle.fancy_code.proofs.prefilter.window_of.Goals as goal

pub returns : goal.returns
returns c = some_foretold c.args.code.now c.in_ok-window.window c.args.sets.items c.in_ok-window.ensures c.requires
