use Rattle.std.proofs.Common.{arith, ap, length, subst, sym, ◌∙◌, None}
use Rattle.fancy_states.proofs.CellLemmas.{row_ways, row_within}
use Rattle.fancy_states.proofs.SearchLemmas.{no_items}
use Rattle.fancy_automaton.proofs.GoingLemmas.{going_idle}
use Rattle.fancy_automaton.proofs.EarliestLemmas.{Here, here_next, here_waiting, none_match}
use Rattle.fancy_automaton.proofs.earliest.standing.Goals as goal
use Rattle.fancy_automaton.proofs.earliest.standing.Goals.{then-is_idle+else-place-attempt, else-is_idle}

pub is_idle-requires : goal.is_idle-requires
is_idle-requires c = row_within c.args.cells.now.rows.lists.items c.args.at.rows.next _ c.requires.waits.rows.waits

pub returns-then-place-attempt-clause-none : goal.returns-then-place-attempt-clause-none
returns-then-place-attempt-clause-none c none =
    let is = c.requires.waits in
    let next = c.next_start-place.ensures in
    let nothing = sym (row_ways c.args.cells.now.rows.lists.items c.args.at.rows.next is.ways is.rows.waits) ∙ c.is_idle.ensures.none c.if-is_idle.true in
    none_match c.args.attempt.now is.ways is.starts c.next_start-place.result c.if-place-attempt.true next.ends
    (going_idle c.args.attempt.now is.ways is.starts None c.args.at.place c.next_start-place.result next.forth next.ends (no_items is.starts (is.going.even ∙ ap length nothing)) next.passed is.going)

pub row_start-requires-clause-place : goal.row_start-requires-clause-place
row_start-requires-clause-place c =
    let a = c.args.attempt.now in
    let is = c.requires.waits in
    let rows = c.args.cells.now.rows.lists.items in
    let same = row_ways rows c.args.at.rows.next is.ways is.rows.waits in
    let here : Here a is.ways is.starts c.if-is_idle.place = elim c.if-is_idle.branch [
      | then-is_idle+else-place-attempt w ↦ subst (Here a is.ways is.starts) (sym w.place-is)
          (here_next a is.ways is.starts c.args.at.place w.next_start-place.result (sym same ∙ c.is_idle.ensures.none w.if-is_idle.true) w.next_start-place.ensures (omega (arith, w.if-place-attempt.false)) is.going)
      | else-is_idle w ↦ subst (Here a is.ways is.starts) (sym w.place-is)
          (here_waiting a is.ways is.starts c.args.at.place (λ none. c.is_idle.ensures.some w.if-is_idle.false (same ∙ none)) is.going)
    ] in
    omega (arith, here.within, is.followed.inside)

pub row_start-requires-clause-row : goal.row_start-requires-clause-row
row_start-requires-clause-row c =
    let is = c.requires.waits in
    let low = row_within c.args.cells.now.rows.lists.items c.args.at.rows.begun _ is.rows.opens in
    omega (arith, low, is.kept.rows)

pub returns-clause-amid : goal.returns-clause-amid
returns-clause-amid c =
    let a = c.args.attempt.now in
    let is = c.requires.waits in
    let rows = c.args.cells.now.rows.lists.items in
    let same = row_ways rows c.args.at.rows.next is.ways is.rows.waits in
    let here : Here a is.ways is.starts c.if-is_idle.place = elim c.if-is_idle.branch [
      | then-is_idle+else-place-attempt w ↦ subst (Here a is.ways is.starts) (sym w.place-is)
          (here_next a is.ways is.starts c.args.at.place w.next_start-place.result (sym same ∙ c.is_idle.ensures.none w.if-is_idle.true) w.next_start-place.ensures (omega (arith, w.if-place-attempt.false)) is.going)
      | else-is_idle w ↦ subst (Here a is.ways is.starts) (sym w.place-is)
          (here_waiting a is.ways is.starts c.args.at.place (λ none. c.is_idle.ensures.some w.if-is_idle.false (same ∙ none)) is.going)
    ] in (
      is.ways,
      is.starts,
      record {
        followed = is.followed;
        kept = is.kept;
        all = is.all;
        waits = is.rows.waits;
        opens = is.rows.opens;
        going = here.going;
        begins = c.row_start.ensures;
        good = here.good;
        within = here.within;
      },
    )
