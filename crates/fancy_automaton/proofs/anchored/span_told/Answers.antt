use Rattle.std.proofs.Common.{◌∙◌, ap, sym, arith, option_map}
use Rattle.fancy_automaton.specs.Decided.{attempt_goal}
use Rattle.fancy_states.specs.Search.{ends_in}
use Rattle.fancy_states.proofs.CellLemmas.{row_ways, row_within}
use Rattle.fancy_automaton.proofs.WalkLemmas.{attempt_decided, decided_end}
use Rattle.fancy_automaton.proofs.anchored.span_told.Goals as goal

pub row_start-requires-clause-row : goal.row_start-requires-clause-row
row_start-requires-clause-row c =
    let low = row_within c.args.cells.now.rows.lists.items c.args.cells.now.alone _ (c.has_origin.ensures c.if-not-has_origin.false).opens in
    omega (arith, low, c.requires.kept.bounded.rows)

pub lengthen-to-requires-clause-row : goal.lengthen-to-requires-clause-row
lengthen-to-requires-clause-row c = row_within c.args.cells.now.rows.lists.items c.args.cells.now.alone _ (c.has_origin.ensures c.if-not-has_origin.false).opens

pub lengthen-to-requires-clause-placed : goal.lengthen-to-requires-clause-placed
lengthen-to-requires-clause-placed c = record {
  begins = c.row_start.ensures;
  good = sym c.is_match_boundary.ensures ∙ c.if-not-is_match_boundary.false;
  within = c.requires.ordered;
}

pub returns : goal.returns
returns c deep begun =
    let a = c.args.attempt.now in
    let to = c.lengthen-to.result in
    let good = sym c.is_match_boundary.ensures ∙ c.if-not-is_match_boundary.false in
    let alone = row_ways c.args.cells.now.rows.lists.items c.args.cells.now.alone _ (c.has_origin.ensures c.if-not-has_origin.false).opens in
    ap (option_map ends_in) c.span_from.ensures
    ∙ decided_end a (attempt_goal a) to.start _ to.end to.stand.place deep (c.is_idle.ensures.none c.if-not-is_idle.false) begun
    (c.lengthen-to.ensures.decided (attempt_goal a) (attempt_decided a _ c.requires.ordered good alone))
