use Rattle.std.proofs.Common.{true}
use Rattle.fancy_code.specs.Code.{instrs_of}
use Rattle.fancy_splits.proofs.DenialLemmas.{all_unclear}
use Rattle.fancy_splits.proofs.denials.sights_behind.Goals as goal

pub loop-kind-init : goal.loop-kind-init
loop-kind-init c b lt = all_unclear (instrs_of c.args.code.now) c.args.code.now.meaning true c.args.body 256 b
