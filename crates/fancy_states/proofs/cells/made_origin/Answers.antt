use Rattle.std.proofs.Common.{rules}
use Rattle.fancy_states.proofs.CellLemmas.{keeps_cells}
use Rattle.fancy_states.proofs.cells.made_origin.Goals as goal

pub returns-clause-kept : goal.returns-clause-kept
returns-clause-kept c =
    let all = c.make_place.ensures.stays c.args.code.now c.in_ok-sort.ensures.kept.all in
    record {
      bounded = search rules;
      all = (keeps_cells c.args.code.now c.make_place.new.self.rows.lists.items c.target_of.new.rows.lists.items c.make_place.new.self.cells.items c.target_of.ensures.rows.kept all.0, all.1);
    }

pub returns-in_err-target-clause-kept : goal.returns-in_err-target-clause-kept
returns-in_err-target-clause-kept c =
    let all = c.make_place.ensures.stays c.args.code.now c.in_ok-sort.ensures.kept.all in
    record {
      bounded = search rules;
      all = (keeps_cells c.args.code.now c.make_place.new.self.rows.lists.items c.target_of.new.rows.lists.items c.make_place.new.self.cells.items c.target_of.ensures.rows.kept all.0, all.1);
    }
