use Rattle.std.specs.Prelude.{slice_get}
use Rattle.std.specs.Global.{Vec}
use Rattle.std.proofs.lemmas.Option.{slice_get-get_or}
use Rattle.std.proofs.Common.{◌≡◌, Option, Some, sym, arith, ℕ, ◌∙◌, ◌++◌, ◌∷◌, [], List, ap, length, subst, map}
use Rattle.fancy_states.specs.Cells.{HasRow, items_or, ways_at}
use Rattle.fancy_states.specs.Origins.{ComeFrom}
use Rattle.fancy_states.specs.declared.way.Way.{Way}
use Rattle.fancy_states.specs.Steps.{at_of, from_of}
use Rattle.fancy_states.proofs.CellLemmas.{cell_made, length-map, row_of}
use Rattle.fancy_states.proofs.cells.computed.Goals as goal

pub returns-clause-cell : goal.returns-clause-cell
returns-clause-cell c =
    let e = c.deref-3.ensures.value in
    let rows = c.args.rows.now.lists.items in
    let v = c.index.result.now in
    let there : slice_get rows c.args.row ≡ Some v = slice_get-get_or rows c.args.row v c.requires.row ∙ ap Some (sym c.index.ensures) in
    let many : c.len.result ≡ length v.items = omega arith in
    let size : c.len.result ≡ length (ways_at rows c.args.row) = many ∙ sym (ap (λ (o : Option (Vec ℕ)). length (items_or o)) there) in
    cell_made c.args.code.now rows c.target_of.new.rows.lists.items c.args.row c.args.sight c.in_ok-target.target.next c.in_ok-target.target.begun (ways_at rows c.args.row) c.args.step.next.items c.in_ok-came.came.items c.args.step.matched c.origin_of-origin.result
    (row_of rows c.args.row c.requires.row)
    c.in_ok-target.ensures.rows.kept
    (subst (λ (ls : List Way). HasRow c.target_of.new.rows.lists.items c.in_ok-target.target.next (map at_of ls)) e c.in_ok-target.ensures.leads.waits)
    (subst (λ (ls : List Way). HasRow c.target_of.new.rows.lists.items c.in_ok-target.target.begun (map at_of ls ++ c.args.code.now.start ∷ [])) e c.in_ok-target.ensures.leads.opens)
    (c.in_ok-came.ensures ∙ ap (map from_of) c.deref.ensures.value)
    (subst (λ (n : ℕ). ComeFrom c.origin_of-origin.result n c.in_ok-came.came.items c.args.step.matched) size
    (subst (λ (xs : List ℕ). ComeFrom c.origin_of-origin.result c.len.result xs c.args.step.matched) c.deref-2.ensures.value c.origin_of-origin.ensures))
    c.requires.step.step c.requires.step.halts

pub returns-clause-ways : goal.returns-clause-ways
returns-clause-ways c =
    ap length (c.in_ok-came.ensures ∙ ap (map from_of) c.deref.ensures.value) ∙ length-map from_of c.args.step.next.items
