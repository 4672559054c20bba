use Rattle.std.proofs.Common.{◌≡◌, ◌∙◌, List, Option, Some, sym, ap, arith, length, subst, All, rules}
use Rattle.std.specs.Prelude.{slice_get}
use Rattle.fancy_states.specs.declared.cells.Cell.{Cell}
use Rattle.fancy_states.specs.Starts.{came_of}
use Rattle.fancy_states.proofs.CellLemmas.{cell_last, cell_pushed, grown, keeps_cells}
use Rattle.fancy_states.specs.Cells.{IsCellOf}
use Rattle.fancy_states.proofs.TransitionLemmas.{holds_more}
use Rattle.fancy_states.proofs.cells.step_at.Goals as goal

pub returns-clause-kept : goal.returns-clause-kept
returns-clause-kept c =
    holds_more c.args.code.now c.args.cells.now _ c.args.row c.args.sight c.in_ok-cell.cell c.deref.result.now c.requires.place c.requires.all c.computed.ensures.rows
    c.in_ok-push.ensures.items c.in_ok-cell.ensures.from c.in_ok-cell.ensures.on c.in_ok-cell.ensures.cell c.deref.ensures.value c.note.ensures.told c.note.ensures.classes

pub returns-in_err-note-clause-kept : goal.returns-in_err-note-clause-kept
returns-in_err-note-clause-kept c =
    holds_more c.args.code.now c.args.cells.now _ c.args.row c.args.sight c.in_ok-cell.cell c.deref.result.now c.requires.place c.requires.all c.computed.ensures.rows
    c.in_ok-push.ensures.items c.in_ok-cell.ensures.from c.in_ok-cell.ensures.on c.in_ok-cell.ensures.cell c.deref.ensures.value c.note.ensures.told c.note.ensures.classes

pub returns-in_err-cell-clause-kept : goal.returns-in_err-cell-clause-kept
returns-in_err-cell-clause-kept c = record {
  bounded = search rules;
  all = (keeps_cells c.args.code.now c.args.cells.now.rows.lists.items c.computed.new.rows.lists.items c.args.cells.now.cells.items c.computed.ensures.rows.kept c.requires.all.0, c.requires.all.1);
}

pub returns-in_err-push-clause-kept : goal.returns-in_err-push-clause-kept
returns-in_err-push-clause-kept c =
    let same : c.push.new.self.items ≡ c.args.cells.now.cells.items = c.in_err-push.ensures.items in
    record {
      bounded = search rules;
      all = (
        subst (All (IsCellOf c.args.code.now c.computed.new.rows.lists.items)) (sym same)
            (keeps_cells c.args.code.now c.args.cells.now.rows.lists.items c.computed.new.rows.lists.items c.args.cells.now.cells.items c.computed.ensures.rows.kept c.requires.all.0),
        c.requires.all.1,
      );
    }

pub returns-clause-cell : goal.returns-clause-cell
returns-clause-cell c =
    let n : c.len-k.result ≡ length c.args.cells.now.cells.items = omega arith in
    cell_pushed c.args.cells.now.cells.items c.push.new.self.items c.len-k.result c.args.row c.args.sight c.in_ok-cell.cell c.in_ok-push.ensures.items n c.in_ok-cell.ensures.from c.in_ok-cell.ensures.on

pub returns-clause-grown : goal.returns-clause-grown
returns-clause-grown c = grown c.args.cells.now.cells.items c.push.new.self.items c.in_ok-cell.cell c.in_ok-push.ensures.items

pub returns-clause-paid : goal.returns-clause-paid
returns-clause-paid c more few =
    let n : c.len-k.result ≡ length c.args.cells.now.cells.items = omega arith in
    let at : slice_get c.push.new.self.items c.len-k.result ≡ Some c.in_ok-cell.cell = ap (λ (cells : List Cell). slice_get cells c.len-k.result) c.in_ok-push.ensures.items ∙ cell_last c.args.cells.now.cells.items c.in_ok-cell.cell c.len-k.result n in
    let came : length (came_of (slice_get c.push.new.self.items c.len-k.result)) ≡ length c.in_ok-cell.cell.came.items = ap (λ (o : Option Cell). length (came_of o)) at in
    omega (arith, came, c.in_ok-cell.ensures.ways, c.in_ok-step.ensures.paid few)

pub returns-in_err-note-clause-grown : goal.returns-in_err-note-clause-grown
returns-in_err-note-clause-grown c = grown c.args.cells.now.cells.items c.push.new.self.items c.in_ok-cell.cell c.in_ok-push.ensures.items
