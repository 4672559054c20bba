use Rattle.fancy_code.specs.Code.{instrs_of}
use Rattle.fancy_splits.proofs.PassageLemmas.{leads_new}
use Rattle.fancy_splits.proofs.choices.number_at.Goals as goal

pub returns-in-Some-clause-noted : goal.returns-in-Some-clause-noted
returns-in-Some-clause-noted c =
    leads_new (instrs_of c.args.code.now) c.args.code.now.meaning c.args.here c.args.ways.first c.args.ways.second c.number_of.new.passages.items c.in-Some.passage c.number_of.result c.number_of.ensures.noted
    c.in-Some.ensures
