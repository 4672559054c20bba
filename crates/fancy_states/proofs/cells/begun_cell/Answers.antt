use Rattle.std.proofs.Common.{◌-◌, arith, length}
use Rattle.fancy_states.proofs.CellLemmas.{last_split}
use Rattle.fancy_states.proofs.cells.begun_cell.Goals as goal

pub returns-clause-last : goal.returns-clause-last
returns-clause-last c = last_split c.args.ways.now (length c.args.ways.now - 1) c.args.code.now.start 0 (omega arith) c.if-ways-code.false
