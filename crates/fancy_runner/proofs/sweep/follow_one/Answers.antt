use Rattle.std.proofs.Common.{◌≡◌, ◌++◌, ◌∙◌, List, sym, ap, subst, arith}
use Rattle.std.specs.Prelude.{Some, reverse}
use Rattle.std.proofs.lemmas.List.{append-nil}
use Rattle.fancy_runner.specs.Runner.{found_state}
use Rattle.fancy_runner.specs.Sweep.{AllPast, SweepingIn}
use Rattle.fancy_runner.specs.Sweeps.{found_in}
use Rattle.fancy_code.specs.Thread.{Thread}
use Rattle.fancy_runner.specs.Threads.{KeptThreads}
use Rattle.fancy_runner.proofs.sweep.follow_one.Goals as goal

pub returns-in-None-clause-swept : goal.returns-in-None-clause-swept
returns-in-None-clause-swept c low kept deep goal front begins from past later s =
    let same : c.args.pair.place ≡ c.args.place = omega (arith, c.requires.from, c.if-pair-place.false) in
    rw c.in-None.is at (c.in_ok-follow_here.ensures.swept low kept deep goal (found_in kept c.args.sweep.now) front c.args.sweep.now.row begins (omega (arith, from, same))
    (subst (λ p. AllPast p front) (sym same) past) (subst (λ p. AllPast p c.args.sweep.now.later) (sym same) later) s)

pub returns-in-None-clause-later : goal.returns-in-None-clause-later
returns-in-None-clause-later c low from all = c.in_ok-follow_here.ensures.later low (omega (arith, from, c.requires.from)) all

pub returns-in-Some-clause-swept : goal.returns-in-Some-clause-swept
returns-in-Some-clause-swept c low kept deep goal front begins from past later s =
    let same : c.args.pair.place ≡ c.args.place = omega (arith, c.requires.from, c.if-pair-place.false) in
    let swept : SweepingIn c.args.attempt.now low kept deep goal c.follow_here.new.notes.table (front ++ reverse c.follow_here.new.later) (found_state kept (Some c.in-Some.end) c.follow_here.new.threads.slots) =
    rw c.in-Some.is at (c.in_ok-follow_here.ensures.swept low kept deep goal (found_in kept c.args.sweep.now) front c.args.sweep.now.row begins (omega (arith, from, same))
    (subst (λ p. AllPast p front) (sym same) past) (subst (λ p. AllPast p c.args.sweep.now.later) (sym same) later) s) in
    let none : (front ++ reverse c.follow_here.new.later) ++ c.clear.new.self ≡ front ++ reverse c.follow_here.new.later =
    ap (λ (x : List Thread). (front ++ reverse c.follow_here.new.later) ++ x) c.clear.ensures ∙ append-nil (front ++ reverse c.follow_here.new.later) in
    subst (λ (x : List Thread). SweepingIn c.args.attempt.now low kept deep goal c.follow_here.new.notes.table x (found_state kept (Some c.in-Some.end) c.swap.new.y.slots)) (sym none)
    (subst (λ (x : KeptThreads). SweepingIn c.args.attempt.now low kept deep goal c.follow_here.new.notes.table (front ++ reverse c.follow_here.new.later) (found_state kept (Some c.in-Some.end) x.slots)) (sym c.swap.ensures.y_after) swept)

pub returns-in-Some-clause-later : goal.returns-in-Some-clause-later
returns-in-Some-clause-later c low from all = c.in_ok-follow_here.ensures.later low (omega (arith, from, c.requires.from)) all
