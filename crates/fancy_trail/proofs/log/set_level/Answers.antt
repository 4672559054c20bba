use Rattle.std.proofs.Common.{arith, ap}
use Rattle.std.proofs.lemmas.List.{get_or_read, map-set}
use Rattle.std.proofs.Math.Seq.{map-set_same}
use Rattle.fancy_trail.specs.Log.{cell_slot, cell_level, empty_cell}
use Rattle.fancy_trail.proofs.log.set_level.Goals as goal

pub returns-then-group-len-clause-slots : goal.returns-then-group-len-clause-slots
returns-then-group-len-clause-slots c =
    map-set_same cell_slot c.args.cells.now.items c.args.group _ empty_cell
    (ap cell_slot (get_or_read c.args.cells.now.items c.args.group c.index-old.result.now (omega (arith, c.if-group-len.true, c.len.ensures, c.args.cells.now.ok.0)) c.index-old.ensures empty_cell))

pub returns-then-group-len-clause-levels : goal.returns-then-group-len-clause-levels
returns-then-group-len-clause-levels c = map-set cell_level c.args.cells.now.items c.args.group _
