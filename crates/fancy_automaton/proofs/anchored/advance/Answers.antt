use Rattle.std.proofs.Common.{ap, refl, sym, ◌∙◌}
use Rattle.fancy_states.specs.Cells.{ways_at}
use Rattle.fancy_states.specs.declared.rows.Target.{Target}
use Rattle.fancy_states.proofs.CellLemmas.{row_ways, row_within}
use Rattle.fancy_automaton.proofs.WalkLemmas.{decided_moved, rests_placed}
use Rattle.fancy_automaton.proofs.anchored.advance.Goals as goal

pub step-requires-clause-row : goal.step-requires-clause-row
step-requires-clause-row c = row_within c.make_place.new.cells.rows.lists.items c.in_ok-rows.rows.next _ c.in_ok-rows.ensures.waits

pub lengthen-requires-clause-placed : goal.lengthen-requires-clause-placed
lengthen-requires-clause-placed c = rests_placed c.args.attempt.now c.step.new.cells c.in_ok-to.to c.in_ok-to.ensures.rests (c.is_idle.ensures.some c.if-is_idle.false)

pub returns-clause-decided : goal.returns-clause-decided
returns-clause-decided c goal is =
    c.lengthen.ensures.decided goal (c.in_ok-to.ensures.decided goal
    (decided_moved c.args.attempt.now goal c.args.from.start _ _ c.args.from.end c.args.from.stand.place c.args.from.stand.place
    (sym (row_ways c.make_place.new.cells.rows.lists.items c.in_ok-rows.rows.next _ c.in_ok-rows.ensures.waits ∙ ap (λ (t : Target). ways_at c.args.cells.now.rows.lists.items t.next) c.rows.ensures)) refl is))
