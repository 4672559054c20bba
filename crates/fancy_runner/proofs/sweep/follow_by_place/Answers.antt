use Rattle.std.proofs.Common.{rules, ◌≡◌, ℕ, ◌+◌, ◌≤◌, ◌++◌, ◌∷◌, ◌∙◌, [], List, Option, sym, ap, ap₂, subst, arith}
use Rattle.std.proofs.lemmas.List.{append-nil}
use Rattle.fancy_code.specs.Attempt.{context_in, instrs_in, may_end_in}
use Rattle.fancy_runner.specs.Attempt.{marks_in, current_in, saved_in, threads_in}
use Rattle.fancy_runner.specs.Backlog.{threads_in_backlog}
use Rattle.fancy_runner.specs.Runner.{burden}
use Rattle.fancy_runner.specs.Runner.{AllWithin, found_state}
use Rattle.fancy_runner.specs.Sweep.{AreRising, SweepingIn}
use Rattle.fancy_runner.specs.Sweeps.{taken_out, backlog_in, left_in_sweep, found_in}
use Rattle.fancy_code.specs.Thread.{Thread}
use Rattle.fancy_runner.specs.Threads.{KeptThreads, thread_of}
use Rattle.fancy_runner.specs.declared.pair.Pair.{Pair}
use Rattle.fancy_runner.proofs.SweepLemmas.{within_back, within_last, within_none, sweep_first}
use Rattle.fancy_runner.proofs.RunnerLemmas.{within_lower}
use Rattle.fancy_runner.proofs.SweepsLemmas.{ended_answer, ended_left, found_here}
use Rattle.fancy_runner.proofs.RunLemmas.{ready_on, worked_none, worked_on, ran_ok, ran_err}
use Rattle.fancy_runner.proofs.sweep.follow_by_place.Goals as goal

pub loop-place-init : goal.loop-place-init
loop-place-init c =
    let code = c.args.attempt.now.code.now in
    let threads = threads_in c.args.attempt.now c.args.pair c.args.threads.now in
    let s = c.new-sweep.result in
    let first = thread_of c.in-Some.first s.backlog.saved.slots.items in
    let rest = threads_in_backlog (instrs_in c.args.attempt.now) s.backlog in
    let one : threads ≡ rest ++ first ∷ [] =
    sym c.new-sweep.ensures.backlog ∙ ap (λ (o : Option Pair). rest ++ taken_out o s.backlog.saved.slots.items) c.in-Some.is in
    let all : left_in_sweep code s ≡ threads =
    ap (λ (r : List Thread). backlog_in code s ++ r) c.new-sweep.ensures.row ∙ append-nil (backlog_in code s) ∙ c.new-sweep.ensures.backlog in
    let lowest : (low : ℕ) → AllWithin low c.args.attempt.now.last threads → low ≤ c.in-Some.first.place =
    λ low within. (within_back low c.args.attempt.now.last rest (first ∷ []) (subst (λ (x : List Thread). AllWithin low c.args.attempt.now.last x) one within)).0 in
    record {
      swept = λ low kept deep goal begins within r.
          subst (λ (x : List Thread). SweepingIn c.args.attempt.now low kept deep goal c.args.notes.now.table x (found_in kept s)) (sym all)
          (subst (λ (o : Option ℕ). SweepingIn c.args.attempt.now low kept deep goal c.args.notes.now.table threads (found_state kept o s.best.slots)) (sym c.new-sweep.ensures.found)
          (sweep_first (may_end_in c.args.attempt.now) (context_in c.args.attempt.now) low c.args.attempt.now.last (instrs_in c.args.attempt.now) c.requires.ready.ready.easy deep kept goal (marks_in c.args.attempt.now c.args.notes.now.table) (current_in c.args.attempt.now c.args.pair c.args.threads.now) (saved_in c.args.attempt.now c.args.threads.now) r));
      from = lowest;
      base = lowest c.args.attempt.now.base c.requires.ready.within;
      waits = record {
        within =
            subst (λ (x : List Thread). AllWithin c.in-Some.first.place c.args.attempt.now.last x) (sym (all ∙ one))
            (within_last c.args.attempt.now.base c.args.attempt.now.last rest first (subst (λ (x : List Thread). AreRising x) one c.requires.rising)
            (subst (λ (x : List Thread). AllWithin c.args.attempt.now.base c.args.attempt.now.last x) one c.requires.ready.within));
        rising = subst (λ (x : List Thread). AreRising x) (sym c.new-sweep.ensures.backlog) c.requires.rising;
        drained = c.new-sweep.ensures.drained;
        empty = c.new-sweep.ensures.later;
      };
      found = λ low within. rw c.new-sweep.ensures.found tt;
      spent = omega (arith, ap (burden code) all);
      worked = worked_none c.requires.ready.ready.last_lines;
    }

pub loop-place-preserved : goal.loop-place-preserved
loop-place-preserved c =
    record {
      swept = λ low kept deep goal begins within r.
          c.in_ok-follow_place.ensures.swept low kept deep goal begins (c.loop-place.invariant.from low within) (c.loop-place.invariant.swept low kept deep goal begins within r);
      from = λ low within. omega (arith, c.loop-place.invariant.from low within);
      base = omega (arith, c.loop-place.invariant.base);
      waits = c.in_ok-follow_place.ensures.waits;
      found = λ low within. found_here c.args.attempt.now low c.loop-place.place _ _ c.in_ok-follow_place.ensures.found (c.loop-place.invariant.from low within) (omega (arith, c.loop-place-test.true)) (c.loop-place.invariant.found low within);
      spent = omega (arith, c.in_ok-follow_place.ensures.spent, c.loop-place.invariant.spent);
      worked = worked_on c.loop-place.invariant.worked c.follow_place.ensures.ran.worked;
    }

pub returns-then-is_over-clause-answer : goal.returns-then-is_over-clause-answer
returns-then-is_over-clause-answer c low kept deep goal begins within r =
    ap₂ (λ (o : Option ℕ) (t : KeptThreads). found_state kept o t.slots) c.finish.ensures.found c.finish.ensures.slots
    ∙ ended_answer c.args.attempt.now c.requires.ready.ready.easy low kept deep goal c.loop-place.notes.table (left_in_sweep c.args.attempt.now.code.now c.loop-place.sweep) (found_in kept c.loop-place.sweep)
    (c.is_over.ensures.over c.if-is_over.true c.args.attempt.now.code.now c.loop-place.invariant.waits.drained) (c.loop-place.invariant.swept low kept deep goal begins within r)

pub returns-then-is_over-clause-left : goal.returns-then-is_over-clause-left
returns-then-is_over-clause-left c low kept deep goal begins within r =
    ended_left c.args.attempt.now c.requires.ready.ready.easy low kept deep goal c.loop-place.notes.table (left_in_sweep c.args.attempt.now.code.now c.loop-place.sweep) (found_in kept c.loop-place.sweep)
    (c.is_over.ensures.over c.if-is_over.true c.args.attempt.now.code.now c.loop-place.invariant.waits.drained) (c.loop-place.invariant.swept low kept deep goal begins within r)
    c.finish.result c.loop-place.sweep.best.slots (ap (λ (o : Option ℕ). found_state kept o c.loop-place.sweep.best.slots) (sym c.finish.ensures.found))

pub returns-then-is_over-clause-ends : goal.returns-then-is_over-clause-ends
returns-then-is_over-clause-ends c low within = rw c.finish.ensures.found (c.loop-place.invariant.found low within)

pub returns-clause-answer : goal.returns-clause-answer
returns-clause-answer c low kept deep goal begins within r =
    ap₂ (λ (o : Option ℕ) (t : KeptThreads). found_state kept o t.slots) c.finish-2.ensures.found c.finish-2.ensures.slots
    ∙ ended_answer c.args.attempt.now c.requires.ready.ready.easy low kept deep goal c.follow_place-2.new.notes.table (left_in_sweep c.args.attempt.now.code.now c.follow_place-2.new.sweep) (found_in kept c.follow_place-2.new.sweep)
    (within_none (c.args.attempt.now.last + 1) c.args.attempt.now.last (left_in_sweep c.args.attempt.now.code.now c.follow_place-2.new.sweep) (omega arith) c.in_ok-follow_place-2.ensures.waits.within) (c.in_ok-follow_place-2.ensures.swept low kept deep goal begins (omega (arith, within.0, within.1)) (c.loop-place.invariant.swept low kept deep goal begins within r))

pub returns-clause-left : goal.returns-clause-left
returns-clause-left c low kept deep goal begins within r =
    ended_left c.args.attempt.now c.requires.ready.ready.easy low kept deep goal c.follow_place-2.new.notes.table (left_in_sweep c.args.attempt.now.code.now c.follow_place-2.new.sweep) (found_in kept c.follow_place-2.new.sweep)
    (within_none (c.args.attempt.now.last + 1) c.args.attempt.now.last (left_in_sweep c.args.attempt.now.code.now c.follow_place-2.new.sweep) (omega arith) c.in_ok-follow_place-2.ensures.waits.within) (c.in_ok-follow_place-2.ensures.swept low kept deep goal begins (omega (arith, within.0, within.1)) (c.loop-place.invariant.swept low kept deep goal begins within r))
    c.finish-2.result c.follow_place-2.new.sweep.best.slots (ap (λ (o : Option ℕ). found_state kept o c.follow_place-2.new.sweep.best.slots) (sym c.finish-2.ensures.found))

pub returns-clause-ends : goal.returns-clause-ends
returns-clause-ends c low within =
    rw c.finish-2.ensures.found (found_here c.args.attempt.now low c.args.attempt.now.last _ _ c.in_ok-follow_place-2.ensures.found (omega (arith, within.0, within.1)) (omega arith) (c.loop-place.invariant.found low within))

pub follow_place-requires-2-clause-waits : goal.follow_place-requires-2-clause-waits
follow_place-requires-2-clause-waits c =
    let waits = c.loop-place.invariant.waits in
    record {
      within = within_lower c.args.attempt.now.last c.loop-place.place c.args.attempt.now.last (left_in_sweep c.args.attempt.now.code.now c.loop-place.sweep) (omega (arith, c.loop-place-test.false)) waits.within;
      rising = waits.rising;
      drained = waits.drained;
      empty = waits.empty;
    }

pub follow_place-requires-clause-ready : goal.follow_place-requires-clause-ready
follow_place-requires-clause-ready c = record { ready = ready_on c.requires.ready.ready c.loop-place.invariant.worked; low = c.loop-place.invariant.base }

pub follow_place-requires-2-clause-ready : goal.follow_place-requires-2-clause-ready
follow_place-requires-2-clause-ready c = record { ready = ready_on c.requires.ready.ready c.loop-place.invariant.worked; low = omega (arith, c.requires.ready.within.0, c.requires.ready.within.1) }

pub returns-in_err-follow_place-clause-ran : goal.returns-in_err-follow_place-clause-ran
returns-in_err-follow_place-clause-ran c = ran_err c.loop-place.invariant.worked c.follow_place.ensures.ran (search rules) (omega arith)

pub returns-in_err-follow_place-2-clause-ran : goal.returns-in_err-follow_place-2-clause-ran
returns-in_err-follow_place-2-clause-ran c = ran_err c.loop-place.invariant.worked c.follow_place-2.ensures.ran (search rules) (omega arith)

pub returns-then-is_over-clause-ran : goal.returns-then-is_over-clause-ran
returns-then-is_over-clause-ran c = ran_ok c.loop-place.invariant.worked (omega arith)

pub returns-clause-ran : goal.returns-clause-ran
returns-clause-ran c = ran_ok (worked_on c.loop-place.invariant.worked c.follow_place-2.ensures.ran.worked) (omega arith)
