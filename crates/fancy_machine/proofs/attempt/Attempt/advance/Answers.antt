use Rattle.std.proofs.Common.{ℕ, arith, subst}
use Rattle.fancy_code.specs.Code.{instrs_of}
use Rattle.fancy_splits.specs.declared.splits.ToldPart.TheVariants.{Loop, Choice, Atom, Denial}
use Rattle.fancy_splits.specs.Splits.{IsPart, IsTold}
use Rattle.fancy_machine.proofs.MachineLemmas.{advanced, overfull, told_ok}
use Rattle.fancy_machine.proofs.WentLemmas.{takes_none, went_passed}
use Rattle.fancy_machine.proofs.attempt.Attempt.advance.Goals as goal

pub returns-in-Some-Loop-clause-went : goal.returns-in-Some-Loop-clause-went
returns-in-Some-Loop-clause-went c = c.pass.ensures.went c.args.best.now

pub returns-in-Some-Choice-clause-went : goal.returns-in-Some-Choice-clause-went
returns-in-Some-Choice-clause-went c = c.choose.ensures.went c.args.best.now

pub returns-in-Some-Atom-clause-went : goal.returns-in-Some-Atom-clause-went
returns-in-Some-Atom-clause-went c = c.pass_atom.ensures.went c.args.best.now

pub returns-in_err-goes_on-in-Some-Denial-clause-went : goal.returns-in_err-goes_on-in-Some-Denial-clause-went
returns-in_err-goes_on-in-Some-Denial-clause-went c =
    went_passed c.from_residual.result _ c.from_residual.ensures.1 (c.in_err-goes_on-in-Some-Denial.ensures.went c.args.best.now)

pub returns-clause-went : goal.returns-clause-went
returns-clause-went c = record {
  advanced = told_ok c.turn.result
      (λ next turned deep goal total choices r s. advanced c.args.self.now c.args.trail.now c.args.best.now c.turn.new.trail c.turn.new.best deep goal total choices r s next turned _ (omega (arith, c.turn.ensures.takes.returns)))
      c.turn.ensures.turned;
  bounded = takes_none c.args.self.now c.args.trail.now c.args.best.now _ _ c.turn.ensures.takes.returns;
  refused = λ e. absurd (c.turn.ensures.refused e);
  crowded = λ e deep goal total choices r s. overfull c.args.self.now c.args.trail.now c.args.best.now c.turn.new.trail c.turn.new.best deep goal total choices r s (c.turn.ensures.crowded e);
  most = c.turn.ensures.most;
}

pub returns-then-goes_on-clause-went : goal.returns-then-goes_on-clause-went
returns-then-goes_on-clause-went c = rw c.if-goes_on.true at (c.in_ok-goes_on-in-Some-Denial.ensures.went c.args.best.now)

pub returns-else-goes_on-clause-went : goal.returns-else-goes_on-clause-went
returns-else-goes_on-clause-went c = rw c.if-goes_on.false at (c.in_ok-goes_on-in-Some-Denial.ensures.went c.args.best.now)

pub pass-requires-clause-noted : goal.pass-requires-clause-noted
pass-requires-clause-noted c =
    subst (λ (q : ℕ). IsPart c.args.self.now.splits.now q (Loop c.in-Some-Loop.split)) c.at.ensures
    (subst (IsPart c.args.self.now.splits.now c.at.result) c.in-Some-Loop.field-0-is c.in-Some-Loop.ensures)

pub choose-requires-clause-told : goal.choose-requires-clause-told
choose-requires-clause-told c =
    let part = subst (IsPart c.args.self.now.splits.now c.at.result) c.in-Some-Choice.field-0-is c.in-Some-Choice.ensures in
    subst (λ (q : ℕ). IsTold (instrs_of c.args.self.now.code.now) c.args.self.now.code.now.meaning q (Choice c.in-Some-Choice.choice)) c.at.ensures (c.args.self.now.told _ _ _ part.1 part.2)

pub pass_atom-requires-clause-told : goal.pass_atom-requires-clause-told
pass_atom-requires-clause-told c =
    let part = subst (IsPart c.args.self.now.splits.now c.at.result) c.in-Some-Atom.field-0-is c.in-Some-Atom.ensures in
    subst (λ (q : ℕ). IsTold (instrs_of c.args.self.now.code.now) c.args.self.now.code.now.meaning q (Atom c.in-Some-Atom.atom)) c.at.ensures (c.args.self.now.told _ _ _ part.1 part.2)

pub pass_denial-requires-clause-told : goal.pass_denial-requires-clause-told
pass_denial-requires-clause-told c =
    let part = subst (IsPart c.args.self.now.splits.now c.at.result) c.in-Some-Denial.field-0-is c.in-Some-Denial.ensures in
    subst (λ (q : ℕ). IsTold (instrs_of c.args.self.now.code.now) c.args.self.now.code.now.meaning q (Denial c.in-Some-Denial.denial)) c.at.ensures (c.args.self.now.told _ _ _ part.1 part.2)
