use Rattle.std.proofs.Common.{rules, ◌≡◌, ◌+◌, ◌-◌, ◌^◌, ◌<◌, ◌∷◌, inl, inr, refl, length, List, ap, ◌∙◌, subst, arith}
use Rattle.fancy_code.specs.Thread.{Thread}
use Rattle.fancy_runner.specs.Threads.{begun_at}
use Rattle.fancy_code.specs.Attempt.{context_in, instrs_in, may_end_in}
use Rattle.fancy_runner.specs.Attempt.{marks_in, first_accepted_in, RestingIn, current_in, saved_in, threads_in}
use Rattle.fancy_runner.specs.Runner.{AllWithin}
use Rattle.fancy_runner.specs.Sweep.{AreRising}
use Rattle.fancy_input.specs.Work.{steps_of}
use Rattle.fancy_input.proofs.WorkLemmas.{one_return}
use Rattle.fancy_code.proofs.MarkingLemmas.{either_side}
use Rattle.fancy_runner.proofs.SweepLemmas.{rising_next}
use Rattle.fancy_runner.proofs.RunLemmas.{ready_on, worked_on, worked_same, worked_back, ran_ok, ran_err}
use Rattle.fancy_runner.proofs.RunnerLemmas.{rest_done, rest_back, within_lower}
use Rattle.fancy_runner.proofs.WentOnLemmas.{worked_went}
use Rattle.fancy_runner.proofs.runner.follow.Goals as goal

pub pairs-preserved-in-On : goal.pairs-preserved-in-On
pairs-preserved-in-On c =
    let spent = rw c.in-On.is at c.in_ok-visit.ensures.spent in
    let went = c.read_items-pair.ensures in
    let within = c.in_ok-visit.ensures.within c.args.start.place c.pairs.invariant.within in
    let rising = rising_next (current_in c.args.attempt.now c.pairs.pair c.pairs.threads) (current_in c.args.attempt.now c.visit.new.pair c.visit.new.threads) (saved_in c.args.attempt.now c.pairs.threads) (saved_in c.args.attempt.now c.visit.new.threads) c.pairs.invariant.rising c.in_ok-visit.ensures.saves.grown c.in_ok-visit.ensures.forth in
    record {
      running = λ kept deep known failed.
          went.running c.args.start.place kept deep (first_accepted_in c.args.attempt.now kept deep (begun_at c.args.start c.args.threads.now.slots)) _ (saved_in c.args.attempt.now c.visit.new.threads) c.requires.ready.low
          (rw c.in-On.is at (c.in_ok-visit.ensures.visited c.args.start.place kept deep (first_accepted_in c.args.attempt.now kept deep (begun_at c.args.start c.args.threads.now.slots)) c.requires.ready.low c.pairs.invariant.within (c.pairs.invariant.running kept deep known failed)));
      within = (omega (arith, within.0, went.forth), went.high within.1, within.2);
      rising = rising_next (current_in c.args.attempt.now c.visit.new.pair c.visit.new.threads) (current_in c.args.attempt.now c.read_items-pair.result c.visit.new.threads) (saved_in c.args.attempt.now c.visit.new.threads) (saved_in c.args.attempt.now c.visit.new.threads) rising (inl refl) went.forth;
      spent = omega (arith, spent, went.spent, c.pairs.invariant.spent);
      tally = λ few.
          (let visited : steps_of c.visit.new.work < 2 ^ 64 - 1 = omega (arith, few, went.steps) in
          omega (arith, went.steps, went.returns, c.visit.ensures.returns, c.visit.ensures.ran.worked.steps, c.in_ok-visit.ensures.saves.tally visited, c.pairs.invariant.tally (omega (arith, visited, c.visit.ensures.ran.worked.steps))));
      worked = worked_on (worked_on c.pairs.invariant.worked c.visit.ensures.ran.worked) (worked_went c.visit.ensures.ran.worked.last_lines went);
    }

pub read_items-pair-requires-clause-row : goal.read_items-pair-requires-clause-row
read_items-pair-requires-clause-row c =
    let ready = ready_on c.requires.ready.ready (worked_on c.pairs.invariant.worked c.visit.ensures.ran.worked) in
    let within = c.in_ok-visit.ensures.within c.args.start.place c.pairs.invariant.within in
    record { low = omega (arith, c.requires.ready.low, within.0); high = within.1; room = ready.room; small = ready.small }

pub returns-in-None-clause-answer : goal.returns-in-None-clause-answer
returns-in-None-clause-answer c kept deep known failed =
    let rest = rw c.in-Dead.is at (c.in_ok-visit.ensures.visited c.args.start.place kept deep (first_accepted_in c.args.attempt.now kept deep (begun_at c.args.start c.args.threads.now.slots)) c.requires.ready.low c.pairs.invariant.within (c.pairs.invariant.running kept deep known failed)) in
    let b = c.in-None.ensures in
    (rest_done (may_end_in c.args.attempt.now) (context_in c.args.attempt.now) c.args.start.place c.args.attempt.now.last (instrs_in c.args.attempt.now) c.requires.ready.ready.easy deep kept (first_accepted_in c.args.attempt.now kept deep (begun_at c.args.start c.args.threads.now.slots)) (marks_in c.args.attempt.now c.visit.new.notes.table)
    (subst (λ (x : List Thread). RestingIn c.args.attempt.now c.args.start.place kept deep (first_accepted_in c.args.attempt.now kept deep (begun_at c.args.start c.args.threads.now.slots)) c.visit.new.notes.table x) b.0 rest)).0

pub returns-in-None-clause-left : goal.returns-in-None-clause-left
returns-in-None-clause-left c kept deep known failed =
    let rest = rw c.in-Dead.is at (c.in_ok-visit.ensures.visited c.args.start.place kept deep (first_accepted_in c.args.attempt.now kept deep (begun_at c.args.start c.args.threads.now.slots)) c.requires.ready.low c.pairs.invariant.within (c.pairs.invariant.running kept deep known failed)) in
    let b = c.in-None.ensures in
    (rest_done (may_end_in c.args.attempt.now) (context_in c.args.attempt.now) c.args.start.place c.args.attempt.now.last (instrs_in c.args.attempt.now) c.requires.ready.ready.easy deep kept (first_accepted_in c.args.attempt.now kept deep (begun_at c.args.start c.args.threads.now.slots)) (marks_in c.args.attempt.now c.visit.new.notes.table)
    (subst (λ (x : List Thread). RestingIn c.args.attempt.now c.args.start.place kept deep (first_accepted_in c.args.attempt.now kept deep (begun_at c.args.start c.args.threads.now.slots)) c.visit.new.notes.table x) b.0 rest)).1

pub pairs-smaller : goal.pairs-smaller
pairs-smaller c =
    let b = c.in-Some.ensures in
    let few : length (saved_in c.args.attempt.now c.visit.new.threads) ≡ length (saved_in c.args.attempt.now c.back.new.self) + 1 = ap length b.0 ∙ omega arith in
    let progress = rw (c.in-Dead.is, b.0) at c.in_ok-visit.ensures.progress in
    omega (arith, few, progress.0, progress.1)

pub pairs-preserved : goal.pairs-preserved
pairs-preserved c =
    let b = c.in-Some.ensures in
    let one = one_return c.visit.new.work c.back.new.work b.1 in
    let few : length (saved_in c.args.attempt.now c.visit.new.threads) ≡ length (saved_in c.args.attempt.now c.back.new.self) + 1 = ap length b.0 ∙ omega arith in
    let spent = rw (c.in-Dead.is, b.0) at c.in_ok-visit.ensures.spent in
    let within : AllWithin c.args.start.place c.args.attempt.now.last ((current_in c.args.attempt.now c.in-Some.branch c.back.new.self) ∷ saved_in c.args.attempt.now c.back.new.self) =
    subst (λ (x : List Thread). AllWithin c.args.start.place c.args.attempt.now.last x) b.0 (c.in_ok-visit.ensures.within c.args.start.place c.pairs.invariant.within).2 in
    record {
      running = λ kept deep known failed.
          (let rest = rw c.in-Dead.is at (c.in_ok-visit.ensures.visited c.args.start.place kept deep (first_accepted_in c.args.attempt.now kept deep (begun_at c.args.start c.args.threads.now.slots)) c.requires.ready.low c.pairs.invariant.within (c.pairs.invariant.running kept deep known failed)) in
          rest_back (may_end_in c.args.attempt.now) (context_in c.args.attempt.now) c.args.start.place c.args.attempt.now.last (instrs_in c.args.attempt.now) c.requires.ready.ready.easy deep kept (first_accepted_in c.args.attempt.now kept deep (begun_at c.args.start c.args.threads.now.slots)) (marks_in c.args.attempt.now c.visit.new.notes.table) (current_in c.args.attempt.now c.in-Some.branch c.back.new.self) (saved_in c.args.attempt.now c.back.new.self)
          (subst (λ (x : List Thread). RestingIn c.args.attempt.now c.args.start.place kept deep (first_accepted_in c.args.attempt.now kept deep (begun_at c.args.start c.args.threads.now.slots)) c.visit.new.notes.table x) b.0 rest));
      within = within;
      rising = subst (λ (x : List Thread). AreRising x) b.0 (rising_next (current_in c.args.attempt.now c.pairs.pair c.pairs.threads) (current_in c.args.attempt.now c.visit.new.pair c.visit.new.threads) (saved_in c.args.attempt.now c.pairs.threads) (saved_in c.args.attempt.now c.visit.new.threads) c.pairs.invariant.rising c.in_ok-visit.ensures.saves.grown c.in_ok-visit.ensures.forth).1;
      spent = omega (arith, spent, one.steps, c.pairs.invariant.spent);
      worked = worked_back (worked_on c.pairs.invariant.worked c.visit.ensures.ran.worked) b.1
          (elim (either_side (steps_of c.visit.new.work) (2 ^ 64 - 1)) [
            | inl less ↦
                omega (arith, few, one.steps, one.one, c.visit.ensures.returns, c.visit.ensures.ran.worked.steps, c.pairs.invariant.worked.steps, c.in_ok-visit.ensures.saves.tally less, c.pairs.invariant.tally (omega (arith, less, c.visit.ensures.ran.worked.steps)))
            | inr full ↦ omega (arith, one.steps, one.full full, c.visit.ensures.returns, c.visit.ensures.ran.worked.steps, c.pairs.invariant.worked.steps, c.pairs.invariant.worked.paired)
          ]);
      tally = λ less.
          (let visited : steps_of c.visit.new.work < 2 ^ 64 - 1 = omega (arith, less, one.steps) in
          omega (arith, few, one.steps, one.one, c.visit.ensures.returns, c.visit.ensures.ran.worked.steps, c.in_ok-visit.ensures.saves.tally visited, c.pairs.invariant.tally (omega (arith, visited, c.visit.ensures.ran.worked.steps))));
    }

pub returns-in-Found-clause-answer : goal.returns-in-Found-clause-answer
returns-in-Found-clause-answer c kept deep known failed =
    rw c.settle.ensures
    (rw c.in-Found.is at (c.in_ok-visit.ensures.visited c.args.start.place kept deep (first_accepted_in c.args.attempt.now kept deep (begun_at c.args.start c.args.threads.now.slots)) c.requires.ready.low c.pairs.invariant.within (c.pairs.invariant.running kept deep known failed))).0

pub returns-in-Found-clause-left : goal.returns-in-Found-clause-left
returns-in-Found-clause-left c kept deep known failed = (rw c.in-Found.is at (c.in_ok-visit.ensures.visited c.args.start.place kept deep (first_accepted_in c.args.attempt.now kept deep (begun_at c.args.start c.args.threads.now.slots)) c.requires.ready.low c.pairs.invariant.within (c.pairs.invariant.running kept deep known failed))).1

pub follow_by_place-requires-clause-rising : goal.follow_by_place-requires-clause-rising
follow_by_place-requires-clause-rising c =
    rising_next (current_in c.args.attempt.now c.pairs.pair c.pairs.threads) (current_in c.args.attempt.now c.visit.new.pair c.visit.new.threads) (saved_in c.args.attempt.now c.pairs.threads) (saved_in c.args.attempt.now c.visit.new.threads) c.pairs.invariant.rising c.in_ok-visit.ensures.saves.grown c.in_ok-visit.ensures.forth

pub returns-then-is_long-clause-answer : goal.returns-then-is_long-clause-answer
returns-then-is_long-clause-answer c kept deep known failed =
    c.in_ok-end-in-On.ensures.answer c.args.start.place kept deep (first_accepted_in c.args.attempt.now kept deep (begun_at c.args.start c.args.threads.now.slots)) c.requires.ready.low (c.in_ok-visit.ensures.within c.args.start.place c.pairs.invariant.within)
    (rw c.in-On.is at (c.in_ok-visit.ensures.visited c.args.start.place kept deep (first_accepted_in c.args.attempt.now kept deep (begun_at c.args.start c.args.threads.now.slots)) c.requires.ready.low c.pairs.invariant.within (c.pairs.invariant.running kept deep known failed)))

pub returns-then-is_long-clause-left : goal.returns-then-is_long-clause-left
returns-then-is_long-clause-left c kept deep known failed =
    c.in_ok-end-in-On.ensures.left c.args.start.place kept deep (first_accepted_in c.args.attempt.now kept deep (begun_at c.args.start c.args.threads.now.slots)) c.requires.ready.low (c.in_ok-visit.ensures.within c.args.start.place c.pairs.invariant.within)
    (rw c.in-On.is at (c.in_ok-visit.ensures.visited c.args.start.place kept deep (first_accepted_in c.args.attempt.now kept deep (begun_at c.args.start c.args.threads.now.slots)) c.requires.ready.low c.pairs.invariant.within (c.pairs.invariant.running kept deep known failed)))

pub visit-requires : goal.visit-requires
visit-requires c = record {
  ready = record {
    ready = ready_on c.requires.ready.ready c.pairs.invariant.worked;
    within = within_lower c.args.attempt.now.base c.args.start.place c.args.attempt.now.last (threads_in c.args.attempt.now c.pairs.pair c.pairs.threads) c.requires.ready.low c.pairs.invariant.within;
  };
}

pub follow_by_place-requires-clause-ready : goal.follow_by_place-requires-clause-ready
follow_by_place-requires-clause-ready c = record {
  ready = ready_on c.requires.ready.ready (worked_on c.pairs.invariant.worked c.visit.ensures.ran.worked);
  within = within_lower c.args.attempt.now.base c.args.start.place c.args.attempt.now.last (threads_in c.args.attempt.now c.visit.new.pair c.visit.new.threads) c.requires.ready.low (c.in_ok-visit.ensures.within c.args.start.place c.pairs.invariant.within);
}

pub returns-in_err-visit-clause-attempted : goal.returns-in_err-visit-clause-attempted
returns-in_err-visit-clause-attempted c = record { ran = ran_err c.pairs.invariant.worked c.visit.ensures.ran (search rules) (omega arith); ends = search rules }

pub returns-in-None-clause-attempted : goal.returns-in-None-clause-attempted
returns-in-None-clause-attempted c =
    let spent = rw c.in-Dead.is at c.in_ok-visit.ensures.spent in
    record {
      ran = ran_ok (worked_same c.in-None.ensures.2 (worked_on c.pairs.invariant.worked c.visit.ensures.ran.worked)) (omega (arith, spent, ap steps_of c.in-None.ensures.2));
      ends = tt;
    }

pub returns-in-Found-clause-attempted : goal.returns-in-Found-clause-attempted
returns-in-Found-clause-attempted c =
    let within = c.in_ok-visit.ensures.within c.args.start.place c.pairs.invariant.within in
    record { ran = ran_ok (worked_on c.pairs.invariant.worked c.visit.ensures.ran.worked) (omega arith); ends = (within.0, within.1) }

pub returns-in_err-end-in-On-clause-attempted : goal.returns-in_err-end-in-On-clause-attempted
returns-in_err-end-in-On-clause-attempted c =
    let spent = rw c.in-On.is at c.in_ok-visit.ensures.spent in
    record {
      ran = ran_err (worked_on c.pairs.invariant.worked c.visit.ensures.ran.worked) c.follow_by_place.ensures.ran (search rules) (omega (arith, spent));
      ends = search rules;
    }

pub returns-then-is_long-clause-attempted : goal.returns-then-is_long-clause-attempted
returns-then-is_long-clause-attempted c =
    let spent = rw c.in-On.is at c.in_ok-visit.ensures.spent in
    record {
      ran = ran_ok (worked_on (worked_on c.pairs.invariant.worked c.visit.ensures.ran.worked) c.follow_by_place.ensures.ran.worked) (omega (arith, spent));
      ends = c.in_ok-end-in-On.ensures.ends c.args.start.place (c.in_ok-visit.ensures.within c.args.start.place c.pairs.invariant.within);
    }
