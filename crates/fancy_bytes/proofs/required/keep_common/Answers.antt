use Rattle.std.proofs.Common.{arith}
use Rattle.fancy_bytes.specs.Sets.{member}
use Rattle.fancy_bytes.proofs.EdgeLemmas.{number_step, numbers_done}
use Rattle.fancy_bytes.proofs.required.keep_common.Goals as goal

pub loop-code-preserved : goal.loop-code-preserved
loop-code-preserved c b lt =
    number_step c.args.meaning c.loop-code.code c.args.to b (member c.loop-code.set b) _ _ (omega arith) (c.keep_bytes_of.ensures b lt) (c.loop-code.invariant b lt)

pub returns : goal.returns
returns c b lt = numbers_done c.args.meaning c.loop-code.code c.args.to b (member c.loop-code.set b) _ (omega arith) (c.loop-code.invariant b lt)
