use Rattle.std.proofs.Common.{◌≡◌, ◌-◌, ◌<◌, ◌∙◌, ◌++◌, ◌∷◌, [], List, arith, length, map, refl, subst, sym, take}
use Rattle.std.specs.Prelude.{ℕ}
use Rattle.fancy_code.specs.Code.{instrs_of}
use Rattle.fancy_alphabet.specs.Sights.{seen_in}
use Rattle.fancy_states.specs.declared.way.Way.{Way}
use Rattle.fancy_states.specs.Cells.{HasRow, ways_at}
use Rattle.fancy_states.specs.Steps.{IsStep, at_of}
use Rattle.fancy_states.proofs.CellLemmas.{alone_is, row_items, row_of, row_within}
use Rattle.fancy_states.proofs.cells.step_of.Goals as goal

pub returns-clause-step : goal.returns-clause-step
returns-clause-step c =
    let rows = c.args.cells.now.rows.lists.items in
    let ways = c.as_slice-ways.result.now in
    let start = c.args.code.now.start in
    let same : ways ≡ ways_at rows c.args.row =
    c.as_slice-ways.ensures.value ∙ row_items rows c.args.row c.index.result.now (ways_at rows c.args.row) (row_of rows c.args.row c.requires.row) c.index.ensures in
    let cell = c.index-cell.result.now in
    let alone = alone_is c.args.code.now rows c.args.cells.now.cells.items c.in-Some.k c.args.cells.now.alone c.args.sight cell c.requires.kept.all.0
    c.in-Some.ensures.cell c.index-cell.ensures c.in-Some.ensures.alone in
    let whole : take (length ways - 1) ways ++ start ∷ [] ≡ ways_at rows c.args.row = sym c.in-Some.ensures.last ∙ same in
    let ats = c.index-2.result.now in
    record {
      step = subst (λ (ws : List ℕ). IsStep (instrs_of c.args.code.now) ws (seen_in c.args.sight) c.in_ok-step-2.step.next.items c.in_ok-step-2.step.matched) whole
          (c.in_ok-step-2.ensures.step (instrs_of c.args.code.now) (take (length ways - 1) ways) start (seen_in c.args.sight) alone.after refl c.in_ok-first.ensures.step.step alone.step
          (sym (c.deref.ensures.value ∙ row_items rows cell.next ats (map at_of alone.after) alone.leads c.index-2.ensures)));
      halts = λ none. c.in_ok-step-2.ensures.halts (c.in_ok-first.ensures.step.halts none)
          (c.deref.ensures.value ∙ row_items rows cell.next ats [] (subst (λ (ws : List Way). HasRow rows cell.next (map at_of ws)) (alone.halts none) alone.leads) c.index-2.ensures);
    }

pub index-requires-2 : goal.index-requires-2
index-requires-2 c =
    let rows = c.args.cells.now.rows.lists.items in
    let alone = alone_is c.args.code.now rows c.args.cells.now.cells.items c.in-Some.k c.args.cells.now.alone c.args.sight c.index-cell.result.now c.requires.kept.all.0
    c.in-Some.ensures.cell c.index-cell.ensures c.in-Some.ensures.alone in
    let low : c.index-cell.result.now.next < length rows = row_within rows c.index-cell.result.now.next _ alone.leads in
    omega (arith, low)
