use Rattle.std.proofs.Common.{sym, ap, ◌∙◌}
use Rattle.fancy_code.specs.Code.{instrs_of, instr_in}
use Rattle.fancy_splits.proofs.LoopLemmas.{stops_commit, stops_match}
use Rattle.fancy_splits.proofs.splits.stop_at.Goals as goal

pub returns-in-Match : goal.returns-in-Match
returns-in-Match c = stops_match (instrs_of c.args.code.now) c.args.at (sym c.instr.ensures.instr ∙ ap (instr_in c.args.code.now) c.in-Match.is)

pub returns-in-Commit : goal.returns-in-Commit
returns-in-Commit c = stops_commit (instrs_of c.args.code.now) c.args.at c.in-Commit.next (sym c.instr.ensures.instr ∙ ap (instr_in c.args.code.now) c.in-Commit.is)
