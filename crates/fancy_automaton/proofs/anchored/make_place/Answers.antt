use Rattle.std.proofs.Common.{List, ℕ, subst}
use Rattle.fancy_states.specs.Cells.{HasRows}
use Rattle.fancy_states.proofs.CellLemmas.{row_of, row_ways}
use Rattle.fancy_automaton.proofs.anchored.make_place.Goals as goal

pub returns-clause-kept : goal.returns-clause-kept
returns-clause-kept c = record { bounded = c.restart.ensures.within; all = c.restart.ensures.stays c.args.attempt.now.code.now c.requires.kept.all }

pub returns-in_err-target-clause-kept : goal.returns-in_err-target-clause-kept
returns-in_err-target-clause-kept c = record { bounded = c.restart.ensures.within; all = c.restart.ensures.stays c.args.attempt.now.code.now c.requires.kept.all }

pub returns-then-not-is_full-clause-waits : goal.returns-then-not-is_full-clause-waits
returns-then-not-is_full-clause-waits c = row_of c.args.cells.now.rows.lists.items c.args.rows.next c.requires.row

pub returns-clause-opens : goal.returns-clause-opens
returns-clause-opens c ways is =
    subst (λ (ws : List ℕ). HasRows c.restart.new.cells.rows.lists.items c.in_ok-target.target.next c.in_ok-target.target.begun ws c.args.attempt.now.code.now.start)
    (row_ways c.args.cells.now.rows.lists.items c.args.rows.next ways is.waits) c.in_ok-target.ensures.rows
