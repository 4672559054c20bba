use Rattle.std.proofs.Common.{◌≡◌, ◌+◌, ◌∙◌, [], ℕ, None, Option, Some, ap, arith, option_map, refl, sym, true}
use Rattle.std.specs.Prelude.{is_some}
use Rattle.fancy_states.specs.Search.{ends_in}
use Rattle.fancy_states.specs.Starts.{match_from}
use Rattle.fancy_code.specs.CodeLength.{code_len}
use Rattle.fancy_states.proofs.CellLemmas.{row_ways, row_within}
use Rattle.fancy_automaton.proofs.GoingLemmas.{going_first, going_idle, going_over}
use Rattle.fancy_states.proofs.CountLemmas.{counts_from}
use Rattle.fancy_automaton.proofs.search.find_from.Goals as goal

match_found : (start : ℕ) (end : Option ℕ) → is_some end ≡ true → is_some (match_from start end) ≡ true
match_found start None some = some
match_found start (Some end) some = refl

pub new-from-requires : goal.new-from-requires
new-from-requires c =
    let a = c.args.attempt.now in
    let place = c.requires.next in
    record {
      followed = c.requires.followed;
      kept = c.origin.ensures.kept;
      rows = c.in_ok-origin.ensures.rows;
      going = going_idle a [] [] None a.base c.args.place place.forth place.ends refl place.passed (going_first a [] [] None refl refl refl);
      good = place.good c.requires.within;
      within = c.requires.within;
    }

pub is_over-requires : goal.is_over-requires
is_over-requires c = row_within c.origin.new.cells.rows.lists.items c.in-Some.to.stand.next _ c.in-Some.ensures.reaches.sole.1.waits

pub told_end-requires-clause-sole : goal.told_end-requires-clause-sole
told_end-requires-clause-sole c = c.in-Some.ensures.reaches.sole

pub trace-requires : goal.trace-requires
trace-requires c = record { sole = c.in-Some.ensures.reaches.sole }

pub returns-then-is_over-clause-answer : goal.returns-then-is_over-clause-answer
returns-then-is_over-clause-answer c deep begun =
    let a = c.args.attempt.now in
    let cells = c.origin.new.cells in
    let to = c.in-Some.to in
    let sole = c.in-Some.ensures.reaches.sole in
    ap (option_map ends_in) c.span_from.ensures
    ∙ going_over a sole.0 _ (match_from to.start to.end) to.stand.place to.stand.place deep
    (sym (row_ways cells.rows.lists.items to.stand.next sole.0 sole.1.waits) ∙ c.is_over.ensures.over c.if-is_over.true)
    (match_found to.start to.end (c.is_over.ensures.found c.if-is_over.true)) begun sole.1.going

pub returns-then-is_over-clause-kept : goal.returns-then-is_over-clause-kept
returns-then-is_over-clause-kept c = record {
  bounded = record { rows = c.origin.ensures.kept.bounded.rows; cells = c.origin.ensures.kept.bounded.cells; told = c.origin.ensures.kept.bounded.told };
  all = c.origin.ensures.kept.all;
}

pub returns-2-clause-counts : goal.returns-2-clause-counts
returns-2-clause-counts c =
    let a = c.args.attempt.now in
    counts_from (code_len a.code.now) a.base c.in-Some.to.stand.place (a.last + 1)
    (omega (arith, c.requires.next.forth, c.new-from.ensures.place, c.in-Some.ensures.reaches.forth)) c.trace.ensures.counts

pub returns-in_err-found-clause-counts : goal.returns-in_err-found-clause-counts
returns-in_err-found-clause-counts c =
    let a = c.args.attempt.now in
    counts_from (code_len a.code.now) a.base c.in-Some.to.stand.place (a.last + 1)
    (omega (arith, c.requires.next.forth, c.new-from.ensures.place, c.in-Some.ensures.reaches.forth)) c.trace.ensures.counts
