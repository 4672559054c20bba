use Rattle.std.proofs.Common.{arith, Option, option_map, refl, subst, sym, ℕ}
use Rattle.fancy_meaning.specs.Reading.{unit_read}
use Rattle.fancy_alphabet.specs.Units.{place_after}
use Rattle.fancy_states.specs.Cells.{ways_at}
use Rattle.fancy_automaton.specs.Decided.{Decided}
use Rattle.fancy_states.proofs.CellLemmas.{row_within}
use Rattle.fancy_automaton.proofs.DecidedLemmas.{advanced}
use Rattle.fancy_automaton.proofs.WalkLemmas.{step_rests}
use Rattle.fancy_automaton.proofs.anchored.step.Goals as goal

pub row_start-requires-clause-row : goal.row_start-requires-clause-row
row_start-requires-clause-row c =
    let rows = c.step_at.new.cells.rows.lists.items in
    let moved = advanced c.args.attempt.now c.args.cells.now c.step_at.new.cells c.args.from.stand.next c.args.from.stand.place c.seen_at-sight.result c.in_ok-k.k c.index-cell.result.now
    c.requires.followed c.requires.within c.requires.good c.requires.row (c.seen_at-sight.ensures.told c.requires.all) c.step_at.ensures.kept c.step_at.ensures.rows c.in_ok-k.ensures.cell c.index-cell.ensures in
    let low = row_within rows c.index-cell.result.now.begun _ moved.opens in
    omega (arith, low, c.step_at.ensures.kept.bounded.rows)

pub returns-clause-forth : goal.returns-clause-forth
returns-clause-forth c =
    let moved = advanced c.args.attempt.now c.args.cells.now c.step_at.new.cells c.args.from.stand.next c.args.from.stand.place c.seen_at-sight.result c.in_ok-k.k c.index-cell.result.now
    c.requires.followed c.requires.within c.requires.good c.requires.row (c.seen_at-sight.ensures.told c.requires.all) c.step_at.ensures.kept c.step_at.ensures.rows c.in_ok-k.ensures.cell c.index-cell.ensures in
    omega (arith, moved.forth, c.place_after-after.ensures.after)

pub returns-clause-rests : goal.returns-clause-rests
returns-clause-rests c =
    let moved = advanced c.args.attempt.now c.args.cells.now c.step_at.new.cells c.args.from.stand.next c.args.from.stand.place c.seen_at-sight.result c.in_ok-k.k c.index-cell.result.now
    c.requires.followed c.requires.within c.requires.good c.requires.row (c.seen_at-sight.ensures.told c.requires.all) c.step_at.ensures.kept c.step_at.ensures.rows c.in_ok-k.ensures.cell c.index-cell.ensures in
    step_rests c.args.attempt.now c.args.cells.now c.step_at.new.cells c.args.from.stand.next c.args.from.stand.place c.seen_at-sight.result c.index-cell.result.now _ c.min.result moved
    c.place_after-after.ensures.after refl c.min.ensures c.row_start.ensures

pub returns-clause-decided : goal.returns-clause-decided
returns-clause-decided c goal is =
    let a = c.args.attempt.now in
    let rows = c.step_at.new.cells.rows.lists.items in
    let cell = c.index-cell.result.now in
    let start = c.args.from.start in
    let moved = advanced a c.args.cells.now c.step_at.new.cells c.args.from.stand.next c.args.from.stand.place c.seen_at-sight.result c.in_ok-k.k cell
    c.requires.followed c.requires.within c.requires.good c.requires.row (c.seen_at-sight.ensures.told c.requires.all) c.step_at.ensures.kept c.step_at.ensures.rows c.in_ok-k.ensures.cell c.index-cell.ensures in
    subst (λ (p : ℕ). Decided a goal start (ways_at rows cell.next) c.later_end-end.result p) (sym c.place_after-after.ensures.after)
    (subst (λ (o : Option ℕ). Decided a goal start (ways_at rows cell.next) o (place_after c.args.from.stand.place (option_map unit_read c.seen_at-sight.result.reading))) (sym c.later_end-end.ensures) (moved.decided goal start c.args.from.end is))
