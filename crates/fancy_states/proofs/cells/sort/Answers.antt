use Rattle.std.proofs.Common.{rules}
use Rattle.fancy_states.proofs.cells.sort.Goals as goal

pub returns-in_err-cells : goal.returns-in_err-cells
returns-in_err-cells c = record { kept = record { bounded = search rules; all = c.forget.ensures.stays c.args.code.now c.requires.kept.all } }
