use Rattle.std.proofs.Common.{rules, ◌≡◌, ◌+◌, ◌-◌, ◌^◌, ◌<◌, ◌∷◌, ◌++◌, inl, inr, length, sym, List, ap, ◌∙◌, subst, arith}
use Rattle.std.specs.Prelude.{reverse}
use Rattle.fancy_code.specs.Thread.{Thread}
use Rattle.fancy_runner.specs.Attempt.{current_in, saved_in, threads_in}
use Rattle.fancy_runner.specs.Sweep.{AllPast, AllAt, SweepingIn}
use Rattle.fancy_input.specs.Work.{steps_of}
use Rattle.fancy_input.proofs.WorkLemmas.{one_return}
use Rattle.fancy_runner.proofs.RunLemmas.{ready_on, worked_on, worked_same, worked_back, ran_ok, ran_err}
use Rattle.fancy_code.proofs.MarkingLemmas.{either_side}
use Rattle.fancy_runner.proofs.SweepLemmas.{at_within, at_next}
use Rattle.fancy_runner.proofs.sweep.follow_here.Goals as goal

pub pairs-smaller-in-On : goal.pairs-smaller-in-On
pairs-smaller-in-On c = c.in_ok-visit_here.ensures.less c.in-On.is

pub pairs-preserved-in-On : goal.pairs-preserved-in-On
pairs-preserved-in-On c =
    let place = c.pairs.invariant.here in
    record {
      swept = λ low kept deep goal found front back begins from past later s.
          rw c.in-On.is at (c.in_ok-visit_here.ensures.swept low kept deep goal found front back begins
          (at_within c.args.start.place low c.args.attempt.now.last (threads_in c.args.attempt.now c.pairs.pair c.pairs.threads) from c.requires.ready.high (place, c.pairs.invariant.saved))
          (subst (λ p. AllPast p front) (sym place) past) (subst (λ p. AllPast p c.pairs.later) (sym place) (c.pairs.invariant.past later))
          (c.pairs.invariant.swept low kept deep goal found front back begins from past later s));
      here = c.in_ok-visit_here.ensures.here (λ e. cc (c.in-On.is, e)) ∙ place;
      saved = at_next c.args.start.place (saved_in c.args.attempt.now c.pairs.threads) (saved_in c.args.attempt.now c.visit_here.new.threads) c.pairs.invariant.saved (rw place at c.in_ok-visit_here.ensures.saves.grown);
      past = λ later. rw place at (c.in_ok-visit_here.ensures.past (subst (λ p. AllPast p c.pairs.later) (sym place) (c.pairs.invariant.past later)));
      later = λ low from within. c.in_ok-visit_here.ensures.later low (omega (arith, from, place)) (c.pairs.invariant.later low from within);
      more = omega (arith, c.pairs.invariant.more, c.in_ok-visit_here.ensures.more);
      spent = omega (arith, rw c.in-On.is at c.in_ok-visit_here.ensures.spent, c.pairs.invariant.spent);
      bounded = omega (arith, rw c.in-On.is at c.in_ok-visit_here.ensures.spent_here, c.pairs.invariant.bounded);
      tally = λ few. omega (arith, c.visit_here.ensures.returns, c.visit_here.ensures.ran.worked.steps, c.in_ok-visit_here.ensures.saves.tally few, c.pairs.invariant.tally (omega (arith, few, c.visit_here.ensures.ran.worked.steps)));
      worked = worked_on c.pairs.invariant.worked c.visit_here.ensures.ran.worked;
    }

pub returns-in-None-clause-swept : goal.returns-in-None-clause-swept
returns-in-None-clause-swept c low kept deep goal found front back begins from past later s =
    let place = c.pairs.invariant.here in
    let b = c.in-None.ensures in
    let rest = rw c.in-Dead.is at (c.in_ok-visit_here.ensures.swept low kept deep goal found front back begins
    (at_within c.args.start.place low c.args.attempt.now.last (threads_in c.args.attempt.now c.pairs.pair c.pairs.threads) from c.requires.ready.high (place, c.pairs.invariant.saved))
    (subst (λ p. AllPast p front) (sym place) past) (subst (λ p. AllPast p c.pairs.later) (sym place) (c.pairs.invariant.past later))
    (c.pairs.invariant.swept low kept deep goal found front back begins from past later s)) in
    subst (λ (x : List Thread). SweepingIn c.args.attempt.now low kept deep goal c.visit_here.new.notes.table ((front ++ reverse c.visit_here.new.later) ++ (x ++ back)) found) b.0 rest

pub pairs-smaller : goal.pairs-smaller
pairs-smaller c =
    let b = c.in-Some.ensures in
    let few : length (saved_in c.args.attempt.now c.visit_here.new.threads) ≡ length (saved_in c.args.attempt.now c.back.new.self) + 1 = ap length b.0 ∙ omega arith in
    let progress = rw b.0 at (c.in_ok-visit_here.ensures.no_more c.in-Dead.is) in
    omega (arith, few, progress)

pub pairs-preserved : goal.pairs-preserved
pairs-preserved c =
    let place = c.pairs.invariant.here in
    let b = c.in-Some.ensures in
    let one = one_return c.visit_here.new.work c.back.new.work b.1 in
    let few : length (saved_in c.args.attempt.now c.visit_here.new.threads) ≡ length (saved_in c.args.attempt.now c.back.new.self) + 1 = ap length b.0 ∙ omega arith in
    let spent = rw (c.in-Dead.is, b.0) at c.in_ok-visit_here.ensures.spent in
    let bounded = rw (c.in-Dead.is, b.0) at c.in_ok-visit_here.ensures.spent_here in
    let all : AllAt c.args.start.place ((current_in c.args.attempt.now c.in-Some.branch c.back.new.self) ∷ saved_in c.args.attempt.now c.back.new.self) =
    subst (λ (x : List Thread). AllAt c.args.start.place x) b.0
    (at_next c.args.start.place (saved_in c.args.attempt.now c.pairs.threads) (saved_in c.args.attempt.now c.visit_here.new.threads) c.pairs.invariant.saved (rw place at c.in_ok-visit_here.ensures.saves.grown)) in
    record {
      swept = λ low kept deep goal found front back begins from past later s.
          (let rest = rw c.in-Dead.is at (c.in_ok-visit_here.ensures.swept low kept deep goal found front back begins
          (at_within c.args.start.place low c.args.attempt.now.last (threads_in c.args.attempt.now c.pairs.pair c.pairs.threads) from c.requires.ready.high (place, c.pairs.invariant.saved))
          (subst (λ p. AllPast p front) (sym place) past) (subst (λ p. AllPast p c.pairs.later) (sym place) (c.pairs.invariant.past later))
          (c.pairs.invariant.swept low kept deep goal found front back begins from past later s)) in
          subst (λ (x : List Thread). SweepingIn c.args.attempt.now low kept deep goal c.visit_here.new.notes.table ((front ++ reverse c.visit_here.new.later) ++ (x ++ back)) found) b.0 rest);
      here = all.0;
      saved = all.1;
      past = λ later. rw place at (c.in_ok-visit_here.ensures.past (subst (λ p. AllPast p c.pairs.later) (sym place) (c.pairs.invariant.past later)));
      later = λ low from within. c.in_ok-visit_here.ensures.later low (omega (arith, from, place)) (c.pairs.invariant.later low from within);
      more = omega (arith, c.pairs.invariant.more, c.in_ok-visit_here.ensures.more);
      spent = omega (arith, spent, one.steps, c.pairs.invariant.spent);
      bounded = omega (arith, bounded, one.steps, c.pairs.invariant.bounded);
      worked = worked_back (worked_on c.pairs.invariant.worked c.visit_here.ensures.ran.worked) b.1
          (elim (either_side (steps_of c.visit_here.new.work) (2 ^ 64 - 1)) [
            | inl less ↦
                omega (arith, few, one.steps, one.one, c.visit_here.ensures.returns, c.visit_here.ensures.ran.worked.steps, c.pairs.invariant.worked.steps, c.in_ok-visit_here.ensures.saves.tally less, c.pairs.invariant.tally (omega (arith, less, c.visit_here.ensures.ran.worked.steps)))
            | inr full ↦ omega (arith, one.steps, one.full full, c.visit_here.ensures.returns, c.visit_here.ensures.ran.worked.steps, c.pairs.invariant.worked.steps, c.pairs.invariant.worked.paired)
          ]);
      tally = λ less.
          (let visited : steps_of c.visit_here.new.work < 2 ^ 64 - 1 = omega (arith, less, one.steps) in
          omega (arith, few, one.steps, one.one, c.visit_here.ensures.returns, c.visit_here.ensures.ran.worked.steps, c.in_ok-visit_here.ensures.saves.tally visited, c.pairs.invariant.tally (omega (arith, visited, c.visit_here.ensures.ran.worked.steps))));
    }

pub returns-in-Found-clause-swept : goal.returns-in-Found-clause-swept
returns-in-Found-clause-swept c low kept deep goal found front back begins from past later s =
    let place = c.pairs.invariant.here in
    rw c.settle.ensures
    (rw c.in-Found.is at (c.in_ok-visit_here.ensures.swept low kept deep goal found front back begins
    (at_within c.args.start.place low c.args.attempt.now.last (threads_in c.args.attempt.now c.pairs.pair c.pairs.threads) from c.requires.ready.high (place, c.pairs.invariant.saved))
    (subst (λ p. AllPast p front) (sym place) past) (subst (λ p. AllPast p c.pairs.later) (sym place) (c.pairs.invariant.past later))
    (c.pairs.invariant.swept low kept deep goal found front back begins from past later s)))

pub returns-in-Found-clause-found : goal.returns-in-Found-clause-found
returns-in-Found-clause-found c = c.in_ok-visit_here.ensures.here (λ e. cc (c.in-Found.is, e)) ∙ c.pairs.invariant.here

pub returns-in-None-clause-later : goal.returns-in-None-clause-later
returns-in-None-clause-later c low from within = c.in_ok-visit_here.ensures.later low (omega (arith, from, c.pairs.invariant.here)) (c.pairs.invariant.later low from within)

pub returns-in-Found-clause-later : goal.returns-in-Found-clause-later
returns-in-Found-clause-later c low from within = c.in_ok-visit_here.ensures.later low (omega (arith, from, c.pairs.invariant.here)) (c.pairs.invariant.later low from within)

pub visit_here-requires : goal.visit_here-requires
visit_here-requires c = record {
  ready = record {
    ready = ready_on c.requires.ready.ready c.pairs.invariant.worked;
    within = at_within c.args.start.place c.args.attempt.now.base c.args.attempt.now.last (threads_in c.args.attempt.now c.pairs.pair c.pairs.threads) c.requires.ready.low c.requires.ready.high (c.pairs.invariant.here, c.pairs.invariant.saved);
  };
}

pub returns-in_err-visit_here-clause-ran : goal.returns-in_err-visit_here-clause-ran
returns-in_err-visit_here-clause-ran c = ran_err c.pairs.invariant.worked c.visit_here.ensures.ran (search rules) (omega arith)

pub returns-in-None-clause-ran : goal.returns-in-None-clause-ran
returns-in-None-clause-ran c =
    let spent = rw c.in-Dead.is at c.in_ok-visit_here.ensures.spent_here in
    ran_ok (worked_same c.in-None.ensures.2 (worked_on c.pairs.invariant.worked c.visit_here.ensures.ran.worked)) (omega (arith, spent, ap steps_of c.in-None.ensures.2))

pub returns-in-Found-clause-ran : goal.returns-in-Found-clause-ran
returns-in-Found-clause-ran c = ran_ok (worked_on c.pairs.invariant.worked c.visit_here.ensures.ran.worked) (omega arith)
