use Rattle.std.proofs.Common.{◌+◌, ◌∙◌, ap, arith, option_map}
use Rattle.fancy_states.specs.Search.{ends_in}
use Rattle.fancy_code.specs.CodeLength.{code_len}
use Rattle.fancy_states.proofs.CellLemmas.{row_within}
use Rattle.fancy_automaton.proofs.GoingLemmas.{going_end, going_over}
use Rattle.fancy_states.proofs.CountLemmas.{counts_more, counts_none, counts_up}
use Rattle.fancy_automaton.proofs.search.trace.Goals as goal

pub new-requires : goal.new-requires
new-requires c = row_within c.args.cells.now.rows.lists.items c.args.from.stand.next _ c.requires.sole.1.waits

pub places-init : goal.places-init
places-init c = record {
  front = c.in_ok-place.ensures.front;
  passed = c.in_ok-place.ensures.forth;
  within = omega (arith, c.in_ok-place.ensures.ends);
  counts = counts_none _;
}

pub run-requires : goal.run-requires
run-requires c = record { front = c.in_ok-front.ensures.front c.args.attempt.now c.requires.sole; within = c.requires.sole.1.within }

pub is_over-requires : goal.is_over-requires
is_over-requires c = record { row = row_within c.places.cells.rows.lists.items c.places.front.next _ c.places.invariant.front.waits }

pub returns-then-is_over-clause-answer : goal.returns-then-is_over-clause-answer
returns-then-is_over-clause-answer c deep begun =
    ap (option_map ends_in) c.end.ensures.found
    ∙ going_over c.args.attempt.now _ _ _ c.places.place c.places.place deep (c.is_over.ensures.over c.if-is_over.true)
    (c.is_over.ensures.found c.if-is_over.true) begun c.places.invariant.front.going

pub returns-then-is_over-clause-kept : goal.returns-then-is_over-clause-kept
returns-then-is_over-clause-kept c = record {
  bounded = c.end.ensures.kept.bounded c.places.invariant.front.kept;
  all = c.end.ensures.kept.stays c.args.attempt.now.code.now c.places.invariant.front.all;
}

pub returns-then-is_over-clause-counts : goal.returns-then-is_over-clause-counts
returns-then-is_over-clause-counts c =
    counts_up (code_len c.args.attempt.now.code.now) c.args.from.stand.place c.places.place (c.args.attempt.now.last + 1) c.places.invariant.within c.places.invariant.counts

pub returns-then-place-attempt-clause-answer : goal.returns-then-place-attempt-clause-answer
returns-then-place-attempt-clause-answer c deep begun =
    ap (option_map ends_in) c.end-then-place-attempt.ensures.found
    ∙ going_end c.args.attempt.now _ _ _ c.seek-place.result deep c.if-place-attempt.true c.seek-place.ensures.ends begun c.seek-place.ensures.front.going

pub returns-then-place-attempt-clause-kept : goal.returns-then-place-attempt-clause-kept
returns-then-place-attempt-clause-kept c = record {
  bounded = c.end-then-place-attempt.ensures.kept.bounded c.seek-place.ensures.front.kept;
  all = c.end-then-place-attempt.ensures.kept.stays c.args.attempt.now.code.now c.seek-place.ensures.front.all;
}

pub returns-then-place-attempt-clause-counts : goal.returns-then-place-attempt-clause-counts
returns-then-place-attempt-clause-counts c =
    counts_up (code_len c.args.attempt.now.code.now) c.args.from.stand.place c.places.place (c.args.attempt.now.last + 1) c.places.invariant.within c.places.invariant.counts

pub pass-requires : goal.pass-requires
pass-requires c = record {
  stands = record {
    front = c.seek-place.ensures.front;
    good = c.seek-place.ensures.good (omega (arith, c.if-place-attempt.false));
    within = omega (arith, c.if-place-attempt.false);
  };
}

pub places-preserved : goal.places-preserved
places-preserved c = record {
  front = c.in_ok-place-2.ensures.front;
  passed = omega (arith, c.places.invariant.passed, c.seek-place.ensures.forth, c.in_ok-place-2.ensures.forth);
  within = c.in_ok-place-2.ensures.ends;
  counts = counts_more (code_len c.args.attempt.now.code.now) c.args.from.stand.place c.seek-place.result c.in_ok-place-2.place (omega (arith, c.places.invariant.passed, c.seek-place.ensures.forth)) c.in_ok-place-2.ensures.forth
      (counts_up (code_len c.args.attempt.now.code.now) c.args.from.stand.place c.places.place c.seek-place.result c.seek-place.ensures.forth c.places.invariant.counts) c.pass.ensures.counts;
}

pub returns-in_err-place-2-clause-counts : goal.returns-in_err-place-2-clause-counts
returns-in_err-place-2-clause-counts c =
    counts_more (code_len c.args.attempt.now.code.now) c.args.from.stand.place c.seek-place.result (c.args.attempt.now.last + 1) (omega (arith, c.places.invariant.passed, c.seek-place.ensures.forth)) (omega (arith, c.if-place-attempt.false))
    (counts_up (code_len c.args.attempt.now.code.now) c.args.from.stand.place c.places.place c.seek-place.result c.seek-place.ensures.forth c.places.invariant.counts) c.pass.ensures.counts

pub returns-in_err-front-clause-kept : goal.returns-in_err-front-clause-kept
returns-in_err-front-clause-kept c = record {
  bounded = c.new.ensures.kept.bounded c.requires.sole.1.kept;
  all = c.new.ensures.kept.stays c.args.attempt.now.code.now c.requires.sole.1.all;
}
