use Rattle.std.proofs.Common.{rules, ◌+◌, ◌++◌, List, Option, sym, ap, subst, arith}
use Rattle.fancy_runner.specs.Runner.{burden}
use Rattle.fancy_meaning.specs.Context.{State}
use Rattle.fancy_runner.specs.Runner.{AllWithin}
use Rattle.fancy_runner.specs.Sweep.{AreRising, SweepingIn}
use Rattle.fancy_runner.specs.Sweeps.{backlog_in, left_in_sweep, found_in}
use Rattle.fancy_code.specs.Thread.{Thread}
use Rattle.fancy_runner.proofs.SweepLemmas.{within_front, within_back, within_append, within_past, burden_append}
use Rattle.fancy_runner.proofs.RunLemmas.{worked_none, ran_ok, ran_err}
use Rattle.fancy_runner.proofs.SweepsLemmas.{backlog_same, found_same}
use Rattle.fancy_runner.proofs.sweep.follow_place.Goals as goal

pub follow_row-requires-clause-row : goal.follow_row-requires-clause-row
follow_row-requires-clause-row c =
    within_back c.args.place c.args.attempt.now.last (backlog_in c.args.attempt.now.code.now c.gather.new.self) c.gather.new.self.row
    (subst (λ (x : List Thread). AllWithin c.args.place c.args.attempt.now.last x) (sym c.in_ok-gather.ensures.same) c.requires.waits.within)

pub returns-clause-swept : goal.returns-clause-swept
returns-clause-swept c low kept deep goal begins from s =
    let code = c.args.attempt.now.code.now in
    let gathered = backlog_in code c.gather.new.self in
    subst (λ (x : List Thread). SweepingIn c.args.attempt.now low kept deep goal c.follow_row.new.notes.table (x ++ c.follow_row.new.sweep.row) (found_in kept c.follow_row.new.sweep))
    (sym (backlog_same code c.gather.new.self c.follow_row.new.sweep c.follow_row.ensures.kept))
    (c.in_ok-follow_row.ensures.swept low kept deep goal gathered begins from c.in_ok-gather.ensures.past
    (subst (λ (f : Option State). SweepingIn c.args.attempt.now low kept deep goal c.args.notes.now.table (left_in_sweep code c.gather.new.self) f) (sym (found_same kept c.args.sweep.now c.gather.new.self c.gather.ensures.kept))
    (subst (λ (x : List Thread). SweepingIn c.args.attempt.now low kept deep goal c.args.notes.now.table x (found_in kept c.args.sweep.now)) (sym c.in_ok-gather.ensures.same) s)))

pub returns-clause-waits : goal.returns-clause-waits
returns-clause-waits c =
    let code = c.args.attempt.now.code.now in
    let gathered = backlog_in code c.gather.new.self in
    let all = subst (λ (x : List Thread). AllWithin c.args.place c.args.attempt.now.last x) (sym c.in_ok-gather.ensures.same) c.requires.waits.within in
    record {
      within =
          subst (λ (x : List Thread). AllWithin (c.args.place + 1) c.args.attempt.now.last (x ++ c.follow_row.new.sweep.row))
          (sym (backlog_same code c.gather.new.self c.follow_row.new.sweep c.follow_row.ensures.kept))
          (within_append (c.args.place + 1) c.args.attempt.now.last gathered c.follow_row.new.sweep.row
          (within_past c.args.place c.args.place c.args.attempt.now.last gathered c.in_ok-gather.ensures.past
          (within_front c.args.place c.args.attempt.now.last gathered c.gather.new.self.row all))
          c.in_ok-follow_row.ensures.row);
      rising = subst (λ (x : List Thread). AreRising x) (sym (backlog_same code c.gather.new.self c.follow_row.new.sweep c.follow_row.ensures.kept)) c.in_ok-gather.ensures.rising;
      drained = search rules;
      empty = c.in_ok-follow_row.ensures.empty;
    }

pub returns-clause-spent : goal.returns-clause-spent
returns-clause-spent c =
    let code = c.args.attempt.now.code.now in
    omega (
      arith,
      burden_append code (backlog_in code c.follow_row.new.sweep) c.follow_row.new.sweep.row,
      ap (burden code) (backlog_same code c.gather.new.self c.follow_row.new.sweep c.follow_row.ensures.kept),
      burden_append code (backlog_in code c.gather.new.self) c.gather.new.self.row,
      ap (burden code) c.in_ok-gather.ensures.same,
      c.in_ok-follow_row.ensures.spent,
    )

pub returns-clause-ran : goal.returns-clause-ran
returns-clause-ran c =
    let code = c.args.attempt.now.code.now in
    ran_ok c.follow_row.ensures.ran.worked (omega (
      arith,
      burden_append code (backlog_in code c.gather.new.self) c.gather.new.self.row,
      ap (burden code) c.in_ok-gather.ensures.same,
      c.follow_row.ensures.ran.paid,
    ))

pub returns-in_err-follow_row-clause-ran : goal.returns-in_err-follow_row-clause-ran
returns-in_err-follow_row-clause-ran c =
    let code = c.args.attempt.now.code.now in
    ran_err (worked_none c.requires.ready.ready.last_lines) c.follow_row.ensures.ran (search rules) (omega (
      arith,
      burden_append code (backlog_in code c.gather.new.self) c.gather.new.self.row,
      ap (burden code) c.in_ok-gather.ensures.same,
      c.follow_row.ensures.ran.paid,
    ))
