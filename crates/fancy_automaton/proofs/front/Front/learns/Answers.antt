use Rattle.std.proofs.Common.{◌<◌, arith, length}
use Rattle.fancy_states.proofs.CellLemmas.{row_within}
use Rattle.fancy_automaton.proofs.front.Front.learns.Goals as goal

pub is_told-requires : goal.is_told-requires
is_told-requires c =
    let low : c.args.self.now.begun < length c.args.cells.now.rows.lists.items = row_within c.args.cells.now.rows.lists.items c.args.self.now.begun _ c.requires.opens in
    record { row = omega (arith, low, c.requires.kept.rows) }
