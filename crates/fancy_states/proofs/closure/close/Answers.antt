use Rattle.std.proofs.Common.{◌≡◌, ◌∙◌, ap, length, reverse, arith, false}
use Rattle.std.proofs.lemmas.List.{length-replicate}
use Rattle.fancy_code.specs.CodeLength.{code_len}
use Rattle.fancy_states.specs.Ways.{marked, first_end}
use Rattle.fancy_states.proofs.MarkLemmas.{marked_le, marked-replicate}
use Rattle.fancy_states.proofs.ClosingLemmas.{close_first, close_over, closing_popped}
use Rattle.fancy_states.proofs.CountLemmas.{counts_none, counts_to, pays_on}
use Rattle.fancy_states.proofs.closure.close.Goals as goal

pub ways-init : goal.ways-init
ways-init c =
    let none : marked c.args.marks.now ≡ 0 = ap marked c.requires.clear ∙ marked-replicate (code_len c.args.code.now) in
    record {
      closing = λ here ends later known beyond rank solves all. close_first ends later known beyond rank _ _ _ _ c.requires.clear c.requires.fresh all;
      halts = λ e. c.requires.fresh;
      room = ap length c.requires.clear ∙ length-replicate _ false;
      width = omega (arith, none, ap length c.requires.fresh);
      counts = counts_none _;
      paid = λ lt. omega (arith, none);
    }

pub returns-then-branch-clause-answer : goal.returns-then-branch-clause-answer
returns-then-branch-clause-answer c here ends later known beyond rank solves all =
    let goal = first_end ends (reverse c.args.reach.now.stack.items) in
    let now = closing_popped ends later known beyond rank goal _ _ _ _ c.in-Some.way c.in-Some.ensures.items (c.ways.invariant.closing here ends later known beyond rank solves all) in
    rw c.if-branch.true at (c.in_ok-visit.ensures.visited here ends later known beyond rank goal solves now)

pub ways-smaller : goal.ways-smaller
ways-smaller c =
    omega (arith, c.in_ok-visit.ensures.progress, c.in-Some.ensures.len, c.visit.ensures.room, marked_le c.visit.new.marks, marked_le c.ways.marks)

pub ways-preserved : goal.ways-preserved
ways-preserved c = record {
  closing = λ here ends later known beyond rank solves all.
      (let goal = first_end ends (reverse c.args.reach.now.stack.items) in
      let now = closing_popped ends later known beyond rank goal _ _ _ _ c.in-Some.way c.in-Some.ensures.items (c.ways.invariant.closing here ends later known beyond rank solves all) in
      rw c.if-branch.false at (c.in_ok-visit.ensures.visited here ends later known beyond rank goal solves now));
  halts = λ e. c.visit.ensures.halts e (c.ways.invariant.halts e);
  room = c.visit.ensures.room ∙ c.ways.invariant.room;
  width = omega (arith, c.visit.ensures.width, c.ways.invariant.width);
  counts = counts_to _ (omega (arith, c.visit.ensures.marked)) c.ways.invariant.counts c.visit.ensures.counts;
  paid = pays_on c.args.work.now c.ways.work c.visit.new.work _ _ _ (omega (arith, c.visit.ensures.marked)) c.visit.ensures.counts.steps c.ways.invariant.paid c.visit.ensures.paid;
}

pub returns-clause-answer : goal.returns-clause-answer
returns-clause-answer c here ends later known beyond rank solves all =
    let none : length c.ways.reach.stack.items ≡ 0 = omega (arith, c.in_default.ensures.cases.0) in
    close_over ends later known beyond rank (first_end ends (reverse c.args.reach.now.stack.items)) c.ways.marks c.ways.reach.next.items c.ways.reach.stack.items none
    (c.ways.invariant.closing here ends later known beyond rank solves all)

pub returns-in_err-visit-clause-halts : goal.returns-in_err-visit-clause-halts
returns-in_err-visit-clause-halts c e = c.visit.ensures.halts e (c.ways.invariant.halts e)

pub returns-then-branch-clause-halts : goal.returns-then-branch-clause-halts
returns-then-branch-clause-halts c e = c.visit.ensures.halts e (c.ways.invariant.halts e)

pub returns-clause-halts : goal.returns-clause-halts
returns-clause-halts c e = c.ways.invariant.halts e

pub returns-in_err-visit-clause-room : goal.returns-in_err-visit-clause-room
returns-in_err-visit-clause-room c = omega (arith, c.visit.ensures.room, c.ways.invariant.room, marked_le c.visit.new.marks)

pub returns-then-branch-clause-room : goal.returns-then-branch-clause-room
returns-then-branch-clause-room c = omega (arith, c.visit.ensures.room, c.ways.invariant.room, marked_le c.visit.new.marks)

pub returns-clause-room : goal.returns-clause-room
returns-clause-room c = omega (arith, c.ways.invariant.room, marked_le c.ways.marks)

pub returns-in_err-visit-clause-counts : goal.returns-in_err-visit-clause-counts
returns-in_err-visit-clause-counts c = counts_to _ (omega (arith, c.visit.ensures.marked)) c.ways.invariant.counts c.visit.ensures.counts

pub returns-then-branch-clause-counts : goal.returns-then-branch-clause-counts
returns-then-branch-clause-counts c = counts_to _ (omega (arith, c.visit.ensures.marked)) c.ways.invariant.counts c.visit.ensures.counts

pub returns-in_err-visit-clause-paid : goal.returns-in_err-visit-clause-paid
returns-in_err-visit-clause-paid c = pays_on c.args.work.now c.ways.work c.visit.new.work _ _ _ (omega (arith, c.visit.ensures.marked)) c.visit.ensures.counts.steps c.ways.invariant.paid c.visit.ensures.paid

pub returns-then-branch-clause-paid : goal.returns-then-branch-clause-paid
returns-then-branch-clause-paid c = pays_on c.args.work.now c.ways.work c.visit.new.work _ _ _ (omega (arith, c.visit.ensures.marked)) c.visit.ensures.counts.steps c.ways.invariant.paid c.visit.ensures.paid
