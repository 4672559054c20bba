use Rattle.std.proofs.Common.{◌<◌, arith, length, refl}
use Rattle.fancy_states.proofs.CellLemmas.{has_cell}
use Rattle.fancy_states.proofs.cells.tested_cell.Goals as goal

pub returns : goal.returns
returns c =
    let lt : c.in_ok-k.k < length c.args.cells.now = omega arith in
    has_cell c.args.cells.now c.in_ok-k.k c.args.row c.args.sight c.index-cells-k.result c.index-cells-k.result lt c.index-cells-k.is (omega arith) (c.if-not-is_same_sight.ensures refl)
