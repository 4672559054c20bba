use Rattle.std.proofs.Common.{◌≡◌, ◌++◌, true, false, Some, inl, length, sym, ap, ◌∙◌, subst, arith}
use Rattle.fancy_code.specs.Thread.{Thread, state_of}
use Rattle.fancy_code.specs.Code.{marks_of}
use Rattle.fancy_code.specs.Attempt.{context_in, instrs_in, may_end_in}
use Rattle.fancy_runner.specs.Attempt.{marks_in, FailedPastIn, current_in, saved_in}
use Rattle.fancy_runner.specs.Sweep.{SweepingIn}
use Rattle.fancy_code.proofs.InstructionLemmas.{length-instrs_of}
use Rattle.fancy_runner.proofs.RunnerSteps.{failed}
use Rattle.fancy_code.proofs.RunMore.{past_end}
use Rattle.fancy_runner.proofs.RunnerLemmas.{run_seen, run_dead, run_good, run_bad, run_on, past_found, same_table, adds_mark}
use Rattle.fancy_runner.proofs.SweepLemmas.{sweep_known, sweep_seen, sweep_dead, sweep_bad, sweep_found, sweep_on}
use Rattle.fancy_input.proofs.WorkLemmas.{one_step, spent_none_left}
use Rattle.fancy_runner.proofs.RunnerLemmas.{grown_length}
use Rattle.fancy_runner.proofs.runner.visit.Goals as goal

pub returns-then-pair-len-clause-visited : goal.returns-then-pair-len-clause-visited
returns-then-pair-len-clause-visited c low kept deep goal begins within r =
    run_dead (may_end_in c.args.attempt.now) (context_in c.args.attempt.now) low c.args.attempt.now.last (instrs_in c.args.attempt.now) c.requires.ready.ready.easy deep kept goal _ _ (current_in c.args.attempt.now c.args.pair.now c.args.threads.now) _ r (same_table (may_end_in c.args.attempt.now) (context_in c.args.attempt.now) low c.args.attempt.now.last (instrs_in c.args.attempt.now) c.requires.ready.ready.easy deep (marks_in c.args.attempt.now c.args.notes.now.table) _ _)
    (failed (context_in c.args.attempt.now) c.args.attempt.now.last (instrs_in c.args.attempt.now) deep kept (current_in c.args.attempt.now c.args.pair.now c.args.threads.now) r.known (past_end (instrs_in c.args.attempt.now) c.args.pair.now.at (rw (c.len.ensures ∙ sym (length-instrs_of c.args.attempt.now.code.now)) at c.if-pair-len.true)))

pub returns-then-not-is_new-clause-visited : goal.returns-then-not-is_new-clause-visited
returns-then-not-is_new-clause-visited c low kept deep goal begins within r =
    rw (c.is_new.ensures.same c.if-not-is_new.true)
    (run_seen (may_end_in c.args.attempt.now) (context_in c.args.attempt.now) low c.args.attempt.now.last (instrs_in c.args.attempt.now) c.requires.ready.ready.easy deep kept goal _ (current_in c.args.attempt.now c.args.pair.now c.args.threads.now) _ r
    ((rw (c.len.ensures ∙ sym (length-instrs_of c.args.attempt.now.code.now)) at c.if-pair-len.false, within.0, within.1), c.is_new.ensures.seen c.if-not-is_new.true))

pub returns-in-On-clause-visited : goal.returns-in-On-clause-visited
returns-in-On-clause-visited c low kept deep goal begins within r =
    run_on (may_end_in c.args.attempt.now) (context_in c.args.attempt.now) low c.args.attempt.now.last (instrs_in c.args.attempt.now) c.requires.ready.ready.easy deep kept goal _ _ (current_in c.args.attempt.now c.args.pair.now c.args.threads.now) (current_in c.args.attempt.now c.step.new.pair c.step.new.threads) _ _ r (adds_mark (may_end_in c.args.attempt.now) (context_in c.args.attempt.now) low c.args.attempt.now.last (instrs_in c.args.attempt.now) c.requires.ready.ready.easy deep c.args.attempt.now.base (marks_of c.args.attempt.now.code.now c.args.notes.now.table) (marks_of c.args.attempt.now.code.now c.is_new.new.table) c.args.pair.now.at c.args.pair.now.place begins c.requires.ready.within.0 c.is_new.ensures.adds)
    (rw c.in-On.is at (c.in_ok-step.ensures.stepped kept deep r.known)) c.in_ok-step.ensures.forth

pub returns-in-Dead-clause-visited : goal.returns-in-Dead-clause-visited
returns-in-Dead-clause-visited c low kept deep goal begins within r =
    let h = rw c.in-Dead.is at (c.in_ok-step.ensures.stepped kept deep r.known) in
    rw h.1 (run_dead (may_end_in c.args.attempt.now) (context_in c.args.attempt.now) low c.args.attempt.now.last (instrs_in c.args.attempt.now) c.requires.ready.ready.easy deep kept goal _ _ (current_in c.args.attempt.now c.args.pair.now c.args.threads.now) _ r (adds_mark (may_end_in c.args.attempt.now) (context_in c.args.attempt.now) low c.args.attempt.now.last (instrs_in c.args.attempt.now) c.requires.ready.ready.easy deep c.args.attempt.now.base (marks_of c.args.attempt.now.code.now c.args.notes.now.table) (marks_of c.args.attempt.now.code.now c.is_new.new.table) c.args.pair.now.at c.args.pair.now.place begins c.requires.ready.within.0 c.is_new.ensures.adds) h.0)

pub returns-then-is_match_boundary-clause-visited : goal.returns-then-is_match_boundary-clause-visited
returns-then-is_match_boundary-clause-visited c low kept deep goal begins within r =
    let h = rw c.in-Found.is at (c.in_ok-step.ensures.stepped kept deep r.known) in
    let fine = subst (λ (x : Thread). may_end_in c.args.attempt.now x.place ≡ true) h.1 (sym c.if-is_match_boundary.ensures) in
    let adds = adds_mark (may_end_in c.args.attempt.now) (context_in c.args.attempt.now) low c.args.attempt.now.last (instrs_in c.args.attempt.now) c.requires.ready.ready.easy deep c.args.attempt.now.base (marks_of c.args.attempt.now.code.now c.args.notes.now.table) (marks_of c.args.attempt.now.code.now c.is_new.new.table) c.args.pair.now.at c.args.pair.now.place begins c.requires.ready.within.0 c.is_new.ensures.adds in (
      ap (λ (x : Thread). Some (state_of kept x)) h.1
          ∙ run_good (may_end_in c.args.attempt.now) (context_in c.args.attempt.now) low c.args.attempt.now.last (instrs_in c.args.attempt.now) c.requires.ready.ready.easy deep kept goal _ (current_in c.args.attempt.now c.args.pair.now c.args.threads.now) _ r h.0 fine,
      subst (λ (x : Thread). FailedPastIn c.args.attempt.now low deep x.place c.is_new.new.table) (sym h.1)
          (past_found (may_end_in c.args.attempt.now) (context_in c.args.attempt.now) low c.args.attempt.now.last (instrs_in c.args.attempt.now) c.requires.ready.ready.easy deep kept goal _ _ (current_in c.args.attempt.now c.args.pair.now c.args.threads.now) _ r adds),
    )

pub returns-else-is_match_boundary-clause-visited : goal.returns-else-is_match_boundary-clause-visited
returns-else-is_match_boundary-clause-visited c low kept deep goal begins within r =
    let h = rw c.in-Found.is at (c.in_ok-step.ensures.stepped kept deep r.known) in
    let bad = subst (λ (x : Thread). may_end_in c.args.attempt.now x.place ≡ false) h.1 (sym c.if-is_match_boundary.ensures) in
    rw h.2 (run_bad (may_end_in c.args.attempt.now) (context_in c.args.attempt.now) low c.args.attempt.now.last (instrs_in c.args.attempt.now) c.requires.ready.ready.easy deep kept goal _ _ (current_in c.args.attempt.now c.args.pair.now c.args.threads.now) _ r (adds_mark (may_end_in c.args.attempt.now) (context_in c.args.attempt.now) low c.args.attempt.now.last (instrs_in c.args.attempt.now) c.requires.ready.ready.easy deep c.args.attempt.now.base (marks_of c.args.attempt.now.code.now c.args.notes.now.table) (marks_of c.args.attempt.now.code.now c.is_new.new.table) c.args.pair.now.at c.args.pair.now.place begins c.requires.ready.within.0 c.is_new.ensures.adds) h.0 bad)

pub step-requires-clause-easy : goal.step-requires-clause-easy
step-requires-clause-easy c = c.requires.ready.ready.easy c.args.pair.now.at

pub returns-then-pair-len-clause-swept : goal.returns-then-pair-len-clause-swept
returns-then-pair-len-clause-swept c low kept deep goal found front back begins within past s =
    sweep_dead (may_end_in c.args.attempt.now) (context_in c.args.attempt.now) low c.args.attempt.now.last (instrs_in c.args.attempt.now) c.requires.ready.ready.easy deep kept goal _ _ front (current_in c.args.attempt.now c.args.pair.now c.args.threads.now) ((saved_in c.args.attempt.now c.args.threads.now) ++ back) found s (same_table (may_end_in c.args.attempt.now) (context_in c.args.attempt.now) low c.args.attempt.now.last (instrs_in c.args.attempt.now) c.requires.ready.ready.easy deep (marks_in c.args.attempt.now c.args.notes.now.table) _ _) past
    (failed (context_in c.args.attempt.now) c.args.attempt.now.last (instrs_in c.args.attempt.now) deep kept (current_in c.args.attempt.now c.args.pair.now c.args.threads.now) (sweep_known (may_end_in c.args.attempt.now) (context_in c.args.attempt.now) low c.args.attempt.now.last (instrs_in c.args.attempt.now) c.requires.ready.ready.easy deep kept goal _ front (current_in c.args.attempt.now c.args.pair.now c.args.threads.now) ((saved_in c.args.attempt.now c.args.threads.now) ++ back) found s) (past_end (instrs_in c.args.attempt.now) c.args.pair.now.at (rw (c.len.ensures ∙ sym (length-instrs_of c.args.attempt.now.code.now)) at c.if-pair-len.true)))

pub returns-then-not-is_new-clause-swept : goal.returns-then-not-is_new-clause-swept
returns-then-not-is_new-clause-swept c low kept deep goal found front back begins within past s =
    rw (c.is_new.ensures.same c.if-not-is_new.true)
    (sweep_seen (may_end_in c.args.attempt.now) (context_in c.args.attempt.now) low c.args.attempt.now.last (instrs_in c.args.attempt.now) c.requires.ready.ready.easy deep kept goal _ front (current_in c.args.attempt.now c.args.pair.now c.args.threads.now) ((saved_in c.args.attempt.now c.args.threads.now) ++ back) found s past
    ((rw (c.len.ensures ∙ sym (length-instrs_of c.args.attempt.now.code.now)) at c.if-pair-len.false, within.0, within.1), c.is_new.ensures.seen c.if-not-is_new.true))

pub returns-in-On-clause-swept : goal.returns-in-On-clause-swept
returns-in-On-clause-swept c low kept deep goal found front back begins within past s =
    sweep_on (may_end_in c.args.attempt.now) (context_in c.args.attempt.now) low c.args.attempt.now.last (instrs_in c.args.attempt.now) c.requires.ready.ready.easy deep kept goal _ _ front (current_in c.args.attempt.now c.args.pair.now c.args.threads.now) (current_in c.args.attempt.now c.step.new.pair c.step.new.threads) (saved_in c.args.attempt.now c.args.threads.now) (saved_in c.args.attempt.now c.step.new.threads) back found s
    (adds_mark (may_end_in c.args.attempt.now) (context_in c.args.attempt.now) low c.args.attempt.now.last (instrs_in c.args.attempt.now) c.requires.ready.ready.easy deep c.args.attempt.now.base (marks_of c.args.attempt.now.code.now c.args.notes.now.table) (marks_of c.args.attempt.now.code.now c.is_new.new.table) c.args.pair.now.at c.args.pair.now.place begins c.requires.ready.within.0 c.is_new.ensures.adds) past
    (rw c.in-On.is at (c.in_ok-step.ensures.stepped kept deep (sweep_known (may_end_in c.args.attempt.now) (context_in c.args.attempt.now) low c.args.attempt.now.last (instrs_in c.args.attempt.now) c.requires.ready.ready.easy deep kept goal _ front (current_in c.args.attempt.now c.args.pair.now c.args.threads.now) ((saved_in c.args.attempt.now c.args.threads.now) ++ back) found s))) c.in_ok-step.ensures.forth

pub returns-in-Dead-clause-swept : goal.returns-in-Dead-clause-swept
returns-in-Dead-clause-swept c low kept deep goal found front back begins within past s =
    let h = rw c.in-Dead.is at (c.in_ok-step.ensures.stepped kept deep (sweep_known (may_end_in c.args.attempt.now) (context_in c.args.attempt.now) low c.args.attempt.now.last (instrs_in c.args.attempt.now) c.requires.ready.ready.easy deep kept goal _ front (current_in c.args.attempt.now c.args.pair.now c.args.threads.now) ((saved_in c.args.attempt.now c.args.threads.now) ++ back) found s)) in
    rw h.1 (sweep_dead (may_end_in c.args.attempt.now) (context_in c.args.attempt.now) low c.args.attempt.now.last (instrs_in c.args.attempt.now) c.requires.ready.ready.easy deep kept goal _ _ front (current_in c.args.attempt.now c.args.pair.now c.args.threads.now) ((saved_in c.args.attempt.now c.args.threads.now) ++ back) found s (adds_mark (may_end_in c.args.attempt.now) (context_in c.args.attempt.now) low c.args.attempt.now.last (instrs_in c.args.attempt.now) c.requires.ready.ready.easy deep c.args.attempt.now.base (marks_of c.args.attempt.now.code.now c.args.notes.now.table) (marks_of c.args.attempt.now.code.now c.is_new.new.table) c.args.pair.now.at c.args.pair.now.place begins c.requires.ready.within.0 c.is_new.ensures.adds) past h.0)

pub returns-then-is_match_boundary-clause-swept : goal.returns-then-is_match_boundary-clause-swept
returns-then-is_match_boundary-clause-swept c low kept deep goal found front back begins within past s =
    let h = rw c.in-Found.is at (c.in_ok-step.ensures.stepped kept deep (sweep_known (may_end_in c.args.attempt.now) (context_in c.args.attempt.now) low c.args.attempt.now.last (instrs_in c.args.attempt.now) c.requires.ready.ready.easy deep kept goal _ front (current_in c.args.attempt.now c.args.pair.now c.args.threads.now) ((saved_in c.args.attempt.now c.args.threads.now) ++ back) found s)) in
    let fine = subst (λ (x : Thread). may_end_in c.args.attempt.now x.place ≡ true) h.1 (sym c.if-is_match_boundary.ensures) in
    subst (λ (x : Thread). SweepingIn c.args.attempt.now low kept deep goal c.is_new.new.table front (Some (state_of kept x))) (sym h.1)
    (sweep_found (may_end_in c.args.attempt.now) (context_in c.args.attempt.now) low c.args.attempt.now.last (instrs_in c.args.attempt.now) c.requires.ready.ready.easy deep kept goal _ _ front (current_in c.args.attempt.now c.args.pair.now c.args.threads.now) ((saved_in c.args.attempt.now c.args.threads.now) ++ back) found s (adds_mark (may_end_in c.args.attempt.now) (context_in c.args.attempt.now) low c.args.attempt.now.last (instrs_in c.args.attempt.now) c.requires.ready.ready.easy deep c.args.attempt.now.base (marks_of c.args.attempt.now.code.now c.args.notes.now.table) (marks_of c.args.attempt.now.code.now c.is_new.new.table) c.args.pair.now.at c.args.pair.now.place begins c.requires.ready.within.0 c.is_new.ensures.adds) past h.0 fine)

pub returns-else-is_match_boundary-clause-swept : goal.returns-else-is_match_boundary-clause-swept
returns-else-is_match_boundary-clause-swept c low kept deep goal found front back begins within past s =
    let h = rw c.in-Found.is at (c.in_ok-step.ensures.stepped kept deep (sweep_known (may_end_in c.args.attempt.now) (context_in c.args.attempt.now) low c.args.attempt.now.last (instrs_in c.args.attempt.now) c.requires.ready.ready.easy deep kept goal _ front (current_in c.args.attempt.now c.args.pair.now c.args.threads.now) ((saved_in c.args.attempt.now c.args.threads.now) ++ back) found s)) in
    let bad = subst (λ (x : Thread). may_end_in c.args.attempt.now x.place ≡ false) h.1 (sym c.if-is_match_boundary.ensures) in
    rw h.2 (sweep_bad (may_end_in c.args.attempt.now) (context_in c.args.attempt.now) low c.args.attempt.now.last (instrs_in c.args.attempt.now) c.requires.ready.ready.easy deep kept goal _ _ front (current_in c.args.attempt.now c.args.pair.now c.args.threads.now) ((saved_in c.args.attempt.now c.args.threads.now) ++ back) found s (adds_mark (may_end_in c.args.attempt.now) (context_in c.args.attempt.now) low c.args.attempt.now.last (instrs_in c.args.attempt.now) c.requires.ready.ready.easy deep c.args.attempt.now.base (marks_of c.args.attempt.now.code.now c.args.notes.now.table) (marks_of c.args.attempt.now.code.now c.is_new.new.table) c.args.pair.now.at c.args.pair.now.place begins c.requires.ready.within.0 c.is_new.ensures.adds) past h.0 bad)

pub returns-in-On-clause-saves : goal.returns-in-On-clause-saves
returns-in-On-clause-saves c =
    let grown = rw c.in-On.is at c.in_ok-step.ensures.stacked in
    let one = one_step c.args.work.now c.step.new.work c.step.ensures.work in
    record { grown = grown; tally = λ few. omega (arith, grown_length _ _ _ grown, one.counted few) }

pub returns-in-Dead-clause-saves : goal.returns-in-Dead-clause-saves
returns-in-Dead-clause-saves c =
    let same = rw c.in-Dead.is at c.in_ok-step.ensures.stacked in
    let one = one_step c.args.work.now c.step.new.work c.step.ensures.work in
    record { grown = inl same; tally = λ few. omega (arith, ap length same, one.counted few) }

pub returns-then-is_match_boundary-clause-saves : goal.returns-then-is_match_boundary-clause-saves
returns-then-is_match_boundary-clause-saves c =
    let same = rw c.in-Found.is at c.in_ok-step.ensures.stacked in
    let one = one_step c.args.work.now c.step.new.work c.step.ensures.work in
    record { grown = inl same; tally = λ few. omega (arith, ap length same, one.counted few) }

pub returns-else-is_match_boundary-clause-saves : goal.returns-else-is_match_boundary-clause-saves
returns-else-is_match_boundary-clause-saves c =
    let same = rw c.in-Found.is at c.in_ok-step.ensures.stacked in
    let one = one_step c.args.work.now c.step.new.work c.step.ensures.work in
    record { grown = inl same; tally = λ few. omega (arith, ap length same, one.counted few) }

pub returns-then-is_spent-clause-ticks : goal.returns-then-is_spent-clause-ticks
returns-then-is_spent-clause-ticks c _ _ left = absurd (spent_none_left _ _ (c.is_spent.ensures.spent c.if-is_spent.true) left)

pub is_new-requires-clause-row : goal.is_new-requires-clause-row
is_new-requires-clause-row c = record { low = c.requires.ready.within.0; high = c.requires.ready.within.1; room = c.requires.ready.ready.room; small = c.requires.ready.ready.small }
