use Rattle.std.proofs.Common.{rules, ◌≡◌, ◌+◌, ◌∷◌, ◌++◌, ◌∙◌, inl, inr, List, sym, ap, subst, append_assoc, arith}
use Rattle.std.specs.Prelude.{reverse}
use Rattle.std.proofs.lemmas.List.{append-nil}
use Rattle.fancy_runner.specs.Runner.{burden}
use Rattle.fancy_runner.specs.Runner.{AllWithin}
use Rattle.fancy_runner.specs.Sweep.{SweepingIn}
use Rattle.fancy_runner.specs.Sweeps.{found_in}
use Rattle.fancy_code.specs.Thread.{Thread}
use Rattle.fancy_runner.specs.Threads.{thread_of}
use Rattle.fancy_runner.proofs.SweepLemmas.{past_reverse, within_reverse, within_past, burden_append, burden_reverse}
use Rattle.fancy_runner.proofs.RunLemmas.{ready_on, worked_on, ran_ok, ran_err}
use Rattle.fancy_runner.proofs.sweep.follow_row.Goals as goal

pub threads-preserved : goal.threads-preserved
threads-preserved c =
    let popped = rw c.in-Some.is at c.in_ok-pair.ensures in
    let row : c.threads.sweep.row ≡ thread_of c.in-Some.pair c.pop.new.threads.slots ∷ c.pop.new.self = popped.0 in
    let all = subst (λ (x : List Thread). AllWithin c.args.place c.args.attempt.now.last x) row c.threads.invariant.row in
    record {
      swept = λ low kept deep goal front begins from past s.
          c.in_ok-follow_one.ensures.swept low kept deep goal front begins from past c.threads.invariant.past
          (subst (λ (x : List Thread). SweepingIn c.args.attempt.now low kept deep goal c.threads.notes.table ((front ++ reverse c.threads.sweep.later) ++ x) (found_in kept c.threads.sweep)) row
          (c.threads.invariant.swept low kept deep goal front begins from past s));
      row = elim c.in_ok-follow_one.ensures.row [
        | inl same ↦ subst (λ (x : List Thread). AllWithin c.args.place c.args.attempt.now.last x) (sym same) all.2
        | inr none ↦ subst (λ (x : List Thread). AllWithin c.args.place c.args.attempt.now.last x) (sym none) tt
      ];
      past = c.in_ok-follow_one.ensures.past c.threads.invariant.past;
      later = c.in_ok-follow_one.ensures.later c.args.place (omega arith) c.threads.invariant.later;
      found = elim c.in_ok-follow_one.ensures.found [
        | inl same ↦ elim c.threads.invariant.found [ inl e ↦ inl (same ∙ e) | inr e ↦ inr (same ∙ e) ]
        | inr here ↦ inr here
      ];
      kept = record {
        backlog = c.follow_one.ensures.kept.backlog ∙ c.threads.invariant.kept.backlog;
        waiting = c.follow_one.ensures.kept.waiting ∙ c.threads.invariant.kept.waiting;
      };
      spent = omega (arith, ap (burden c.args.attempt.now.code.now) row, c.in_ok-follow_one.ensures.spent, c.threads.invariant.spent);
      worked = worked_on c.threads.invariant.worked c.follow_one.ensures.ran.worked;
    }

pub returns-clause-swept : goal.returns-clause-swept
returns-clause-swept c low kept deep goal front begins from past s =
    let popped = rw c.in_default.is at c.in_ok-pair.ensures in
    let turned = reverse c.threads.sweep.later in
    let same : front ++ c.pass_all.new.row ≡ (front ++ turned) ++ c.threads.sweep.row =
    ap (λ (x : List Thread). front ++ x) c.in_ok-pass_all.ensures.row ∙ sym (append_assoc front turned c.pop.new.self)
    ∙ ap (λ (x : List Thread). (front ++ turned) ++ x) (popped.1 ∙ sym popped.0) in
    subst (λ (x : List Thread). SweepingIn c.args.attempt.now low kept deep goal c.threads.notes.table x (found_in kept c.threads.sweep)) (sym same)
    (c.threads.invariant.swept low kept deep goal front begins from past s)

pub returns-clause-row : goal.returns-clause-row
returns-clause-row c =
    let popped = rw c.in_default.is at c.in_ok-pair.ensures in
    let turned = reverse c.threads.sweep.later in
    let same : c.pass_all.new.row ≡ turned =
    c.in_ok-pass_all.ensures.row ∙ ap (λ (x : List Thread). turned ++ x) popped.1 ∙ append-nil turned in
    subst (λ (x : List Thread). AllWithin (c.args.place + 1) c.args.attempt.now.last x) (sym same)
    (within_past c.args.place c.args.place c.args.attempt.now.last turned
    (past_reverse c.args.place c.threads.sweep.later c.threads.invariant.past)
    (within_reverse c.args.place c.args.attempt.now.last c.threads.sweep.later c.threads.invariant.later))

pub returns-clause-spent : goal.returns-clause-spent
returns-clause-spent c =
    let popped = rw c.in_default.is at c.in_ok-pair.ensures in
    let code = c.args.attempt.now.code.now in
    let turned = reverse c.threads.sweep.later in
    omega (arith, ap (burden code) c.in_ok-pass_all.ensures.row, burden_append code turned c.pop.new.self, burden_reverse code c.threads.sweep.later, ap (burden code) popped.1, ap (burden code) popped.0, c.threads.invariant.spent)

pub follow_one-requires-clause-ready : goal.follow_one-requires-clause-ready
follow_one-requires-clause-ready c = record { ready = ready_on c.requires.ready.ready c.threads.invariant.worked; low = c.requires.ready.low }

pub returns-in_err-follow_one-clause-ran : goal.returns-in_err-follow_one-clause-ran
returns-in_err-follow_one-clause-ran c =
    let popped = rw c.in-Some.is at c.in_ok-pair.ensures in
    let row : c.threads.sweep.row ≡ thread_of c.in-Some.pair c.pop.new.threads.slots ∷ c.pop.new.self = popped.0 in
    ran_err c.threads.invariant.worked c.follow_one.ensures.ran (search rules) (omega (arith, ap (burden c.args.attempt.now.code.now) row))

pub returns-clause-ran : goal.returns-clause-ran
returns-clause-ran c = ran_ok c.threads.invariant.worked (omega arith)
