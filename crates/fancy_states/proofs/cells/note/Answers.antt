use Rattle.std.proofs.Common.{◌∙◌, Some, ap, refl, sym}
use Rattle.std.proofs.lemmas.Option.{slice_get-get_or}
use Rattle.fancy_states.proofs.cells.note.Goals as goal

pub returns-clause-told : goal.returns-clause-told
returns-clause-told c told =
    let cells = c.args.cells.now in
    let cell = c.index-cells-k.result in
    c.note.ensures.told cells told (c.entry_of-entry.ensures cell.row cell.sight (cell, slice_get-get_or cells c.args.k cell c.requires ∙ ap Some (sym c.index-cells-k.is), refl, refl))

pub returns-then-is_none-clause-told : goal.returns-then-is_none-clause-told
returns-then-is_none-clause-told c told =
    let cells = c.args.cells.now in
    let cell = c.index-cells-k.result in
    c.leave.ensures.told cells told (c.entry_of-entry.ensures cell.row cell.sight (cell, slice_get-get_or cells c.args.k cell c.requires ∙ ap Some (sym c.index-cells-k.is), refl, refl))
