use Rattle.std.proofs.Common.{◌∷◌, ◌++◌, List, sym, subst, arith}
use Rattle.std.specs.Prelude.{reverse}
use Rattle.fancy_runner.specs.Attempt.{current_in, saved_in}
use Rattle.fancy_runner.specs.Runner.{AllWithin}
use Rattle.fancy_runner.specs.Sweep.{SweepingIn}
use Rattle.fancy_code.specs.Thread.{Thread}
use Rattle.fancy_runner.proofs.SweepLemmas.{past_both, moved_over}
use Rattle.fancy_runner.proofs.sweep.visit_here.Goals as goal

pub returns-then-pair-place-clause-swept : goal.returns-then-pair-place-clause-swept
returns-then-pair-place-clause-swept c low kept deep goal found front back begins within past later s =
    rw c.in-On.is at (c.in_ok-visit.ensures.swept low kept deep goal found (front ++ reverse c.args.later.now) back begins within (past_both c.args.pair.now.place front c.args.later.now past later) s)

pub returns-in_ok-push_current-in-On-clause-swept : goal.returns-in_ok-push_current-in-On-clause-swept
returns-in_ok-push_current-in-On-clause-swept c low kept deep goal found front back begins within past later s =
    let saved = saved_in c.args.attempt.now c.visit.new.threads in
    let current = current_in c.args.attempt.now c.visit.new.pair c.visit.new.threads in
    let here : SweepingIn c.args.attempt.now low kept deep goal c.visit.new.notes.table ((front ++ reverse c.args.later.now) ++ current ∷ (saved ++ back)) found =
    rw c.in-On.is at (c.in_ok-visit.ensures.swept low kept deep goal found (front ++ reverse c.args.later.now) back begins within (past_both c.args.pair.now.place front c.args.later.now past later) s) in
    subst (λ (x : List Thread). SweepingIn c.args.attempt.now low kept deep goal c.visit.new.notes.table ((front ++ reverse x) ++ (saved ++ back)) found) (sym c.in_ok-push_current-in-On.ensures)
    (subst (λ (x : List Thread). SweepingIn c.args.attempt.now low kept deep goal c.visit.new.notes.table x found) (moved_over front c.args.later.now (saved ++ back) current) here)

pub returns-in_ok-push_current-in-On-clause-later : goal.returns-in_ok-push_current-in-On-clause-later
returns-in_ok-push_current-in-On-clause-later c low from all =
    let within = c.in_ok-visit.ensures.within c.args.attempt.now.base c.requires.ready.within in
    subst (λ (x : List Thread). AllWithin low c.args.attempt.now.last x) (sym c.in_ok-push_current-in-On.ensures) (omega (arith, from, c.in_ok-visit.ensures.forth), within.1, all)

pub returns-in-Dead-clause-swept : goal.returns-in-Dead-clause-swept
returns-in-Dead-clause-swept c low kept deep goal found front back begins within past later s =
    rw c.in-Dead.is at (c.in_ok-visit.ensures.swept low kept deep goal found (front ++ reverse c.args.later.now) back begins within (past_both c.args.pair.now.place front c.args.later.now past later) s)

pub returns-in-Found-clause-swept : goal.returns-in-Found-clause-swept
returns-in-Found-clause-swept c low kept deep goal found front back begins within past later s =
    rw c.in-Found.is at (c.in_ok-visit.ensures.swept low kept deep goal found (front ++ reverse c.args.later.now) back begins within (past_both c.args.pair.now.place front c.args.later.now past later) s)
