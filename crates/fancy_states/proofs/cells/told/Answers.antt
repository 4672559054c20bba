use Rattle.std.proofs.Common.{List, subst}
use Rattle.std.specs.Prelude.{IfSome}
use Rattle.fancy_states.specs.declared.cells.Cell.{Cell}
use Rattle.fancy_states.specs.Cells.{HasCell}
use Rattle.fancy_states.proofs.cells.told.Goals as goal

pub returns : goal.returns
returns c =
    subst (λ (cs : List Cell). IfSome c.tested_cell.result (λ k. HasCell cs k c.args.row c.args.sight)) c.deref.ensures.value c.tested_cell.ensures
