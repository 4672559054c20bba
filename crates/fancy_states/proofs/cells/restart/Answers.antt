use Rattle.std.proofs.Common.{◌≡◌, ◌∙◌, ◌++◌, ◌∷◌, [], ℕ, List, sym, ap, subst}
use Rattle.fancy_states.specs.Cells.{HasRow, ways_at}
use Rattle.fancy_states.proofs.CellLemmas.{has_row, keeps_row, no_cells, row_ways}
use Rattle.fancy_states.proofs.cells.restart.Goals as goal

pub returns-clause-rows : goal.returns-clause-rows
returns-clause-rows c =
    let rows = c.args.cells.now.rows.lists.items in
    let same : c.in_ok-ways.ways.items ≡ ways_at rows c.args.row =
    c.in_ok-ways.ensures
    ∙ sym (row_ways rows c.args.row c.deref.result.now (has_row rows c.args.row c.index.result.now c.index.result.now c.deref.result.now c.requires.row c.index.ensures (sym c.deref.ensures.value))) in
    record {
      waits = keeps_row c.intern-2.new.rows.lists.items c.intern-3.new.rows.lists.items c.in_ok-next.next (ways_at rows c.args.row) c.in_ok-begun.ensures.rows.kept
          (subst (λ (ws : List ℕ). HasRow c.intern-2.new.rows.lists.items c.in_ok-next.next ws) (c.deref-2.ensures.value ∙ same) c.in_ok-next.ensures.row);
      opens = subst (λ (ws : List ℕ). HasRow c.intern-3.new.rows.lists.items c.in_ok-begun.begun ws)
          (c.deref-3.ensures.value ∙ c.in_ok-push.ensures.items ∙ ap (λ (ws : List ℕ). ws ++ c.args.start ∷ []) same)
          c.in_ok-begun.ensures.row;
    }

pub returns-in_err-alone-clause-stays : goal.returns-in_err-alone-clause-stays
returns-in_err-alone-clause-stays c code is = (no_cells code c.intern.new.rows.lists.items c.forget.new.self.cells.items c.forget.ensures.empty.cells, (c.forget.ensures.stays code is).1)

pub returns-in_err-next-clause-stays : goal.returns-in_err-next-clause-stays
returns-in_err-next-clause-stays c code is = (no_cells code c.intern-2.new.rows.lists.items c.forget.new.self.cells.items c.forget.ensures.empty.cells, (c.forget.ensures.stays code is).1)

pub returns-in_err-push-clause-stays : goal.returns-in_err-push-clause-stays
returns-in_err-push-clause-stays c code is = (no_cells code c.intern-2.new.rows.lists.items c.forget.new.self.cells.items c.forget.ensures.empty.cells, (c.forget.ensures.stays code is).1)

pub returns-in_err-begun-clause-stays : goal.returns-in_err-begun-clause-stays
returns-in_err-begun-clause-stays c code is = (no_cells code c.intern-3.new.rows.lists.items c.forget.new.self.cells.items c.forget.ensures.empty.cells, (c.forget.ensures.stays code is).1)

pub returns-clause-stays : goal.returns-clause-stays
returns-clause-stays c code is = (no_cells code c.intern-3.new.rows.lists.items c.forget.new.self.cells.items c.forget.ensures.empty.cells, (c.forget.ensures.stays code is).1)
