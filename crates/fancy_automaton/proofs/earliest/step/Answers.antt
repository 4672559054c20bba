use Rattle.std.proofs.Common.{arith, sym, ◌∙◌}
use Rattle.fancy_states.proofs.CellLemmas.{get_within, row_within}
use Rattle.fancy_automaton.proofs.EarliestLemmas.{none_of, rows_at, step_forth, step_match, step_waits}
use Rattle.fancy_automaton.proofs.earliest.step.Goals as goal

pub step_at-requires-clause-row : goal.step_at-requires-clause-row
step_at-requires-clause-row c =
    let is = c.requires.amid in
    row_within c.make_place.new.cells.rows.lists.items c.in_ok-rows.rows.begun _
    (c.in_ok-rows.ensures.opens is.0 (rows_at c.args.attempt.now c.args.cells.now c.args.at c.rows.result is c.rows.ensures)).opens

pub index-cell-requires : goal.index-cell-requires
index-cell-requires c = let low = get_within c.step_at.new.cells.cells.items c.in_ok-k.k c.in_ok-k.ensures.cell.0 c.in_ok-k.ensures.cell.1 in omega (arith, low)

pub returns-then-is_some-clause-found : goal.returns-then-is_some-clause-found
returns-then-is_some-clause-found c none =
    let is = c.requires.amid in
    let it = is.2 in
    let rows = c.in_ok-rows.ensures.opens is.0 (rows_at c.args.attempt.now c.args.cells.now c.args.at c.rows.result is c.rows.ensures) in
    step_match c.args.attempt.now c.make_place.new.cells c.step_at.new.cells is.0 is.1 c.args.at.place c.in_ok-rows.rows.begun c.seen_at-sight.result c.in_ok-k.k c.index-cell.result.now
    it.within it.good it.followed it.going rows.opens (c.seen_at-sight.ensures.told c.in_ok-rows.ensures.kept.all) c.step_at.ensures.kept c.step_at.ensures.rows c.in_ok-k.ensures.cell c.index-cell.ensures
    (sym c.is_some.ensures ∙ c.if-is_some.true)

pub returns-clause-waits : goal.returns-clause-waits
returns-clause-waits c =
    let is = c.requires.amid in
    let it = is.2 in
    let rows = c.in_ok-rows.ensures.opens is.0 (rows_at c.args.attempt.now c.args.cells.now c.args.at c.rows.result is c.rows.ensures) in
    step_waits c.args.attempt.now c.make_place.new.cells c.step_at.new.cells is.0 is.1 c.args.at.place c.in_ok-rows.rows.begun c.seen_at-sight.result c.in_ok-k.k c.index-cell.result.now
    it.within it.good it.followed it.going rows.opens (c.seen_at-sight.ensures.told c.in_ok-rows.ensures.kept.all) c.step_at.ensures.kept c.step_at.ensures.rows c.in_ok-k.ensures.cell c.index-cell.ensures
    c.place_after.result (none_of _ (sym c.is_some.ensures ∙ c.if-is_some.false)) c.place_after.ensures.after c.place_after.ensures.ends

pub returns-clause-forth : goal.returns-clause-forth
returns-clause-forth c =
    let is = c.requires.amid in
    let it = is.2 in
    let rows = c.in_ok-rows.ensures.opens is.0 (rows_at c.args.attempt.now c.args.cells.now c.args.at c.rows.result is c.rows.ensures) in
    step_forth c.args.attempt.now c.make_place.new.cells c.step_at.new.cells is.0 is.1 c.args.at.place c.in_ok-rows.rows.begun c.seen_at-sight.result c.in_ok-k.k c.index-cell.result.now
    it.within it.good it.followed it.going rows.opens (c.seen_at-sight.ensures.told c.in_ok-rows.ensures.kept.all) c.step_at.ensures.kept c.step_at.ensures.rows c.in_ok-k.ensures.cell c.index-cell.ensures
    c.place_after.result (none_of _ (sym c.is_some.ensures ∙ c.if-is_some.false)) c.place_after.ensures.after
