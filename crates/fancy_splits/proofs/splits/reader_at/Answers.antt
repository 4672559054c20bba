use Rattle.fancy_code.specs.Code.{instrs_of}
use Rattle.fancy_splits.proofs.LoopLemmas.{item_ends}
use Rattle.fancy_splits.proofs.splits.reader_at.Goals as goal

pub returns-in-Some-clause-ends : goal.returns-in-Some-clause-ends
returns-in-Some-clause-ends c is = item_ends (instrs_of c.args.code.now) c.args.at c.args.back c.in-Some.ensures.item

pub returns-in-None-clause-reads : goal.returns-in-None-clause-reads
returns-in-None-clause-reads c = c.none.ensures.reads c.args.code.now c.args.at c.args.back
