use Rattle.std.proofs.Common.{chars}
use Rattle.fancy_template.specs.Expanders.{syntax_of, step_of}
use Rattle.fancy_template.proofs.TemplateLemmas.{left_none, left_plain, left_formed, left_faulty, one_fewer}
use Rattle.fancy_template.proofs.steps.StepsIterator.next.Goals as goal

pub returns-in_default-clause-steps : goal.returns-in_default-clause-steps
returns-in_default-clause-steps c =
    let e = left_none (syntax_of c.args.self.now.expander) c.args.self.now.owes_mark (chars c.args.self.now.rest.now) c.if-self.false c.in_default.ensures.chars in
    (e, e)

pub returns-then-first-self-clause-steps : goal.returns-then-first-self-clause-steps
returns-then-first-self-clause-steps c = left_plain (syntax_of c.args.self.now.expander) c.args.self.now.owes_mark _ c.if-self.false c.in-Some.first (chars c.in-Some.after.now) c.in-Some.ensures.chars c.if-first-self.true

pub returns-then-first-self-clause-goes : goal.returns-then-first-self-clause-goes
returns-then-first-self-clause-goes c =
    let e = left_plain (syntax_of c.args.self.now.expander) c.args.self.now.owes_mark _ c.if-self.false c.in-Some.first (chars c.in-Some.after.now) c.in-Some.ensures.chars c.if-first-self.true in
    record { on = λ f. (tt, f, one_fewer _ _ _ e); keeps = tt; rests = λ f. tt }

pub returns-in-Some-read_form-clause-steps : goal.returns-in-Some-read_form-clause-steps
returns-in-Some-read_form-clause-steps c = left_formed (syntax_of c.args.self.now.expander) c.args.self.now.owes_mark _ c.if-self.false c.in-Some.first (chars c.in-Some.after.now) (step_of c.in-Some-read_form.step, chars c.in-Some-read_form.rest.now) c.in-Some.ensures.chars c.if-first-self.false c.in-Some-read_form.ensures

pub returns-in-Some-read_form-clause-goes : goal.returns-in-Some-read_form-clause-goes
returns-in-Some-read_form-clause-goes c =
    let e = left_formed (syntax_of c.args.self.now.expander) c.args.self.now.owes_mark _ c.if-self.false c.in-Some.first (chars c.in-Some.after.now) (step_of c.in-Some-read_form.step, chars c.in-Some-read_form.rest.now) c.in-Some.ensures.chars c.if-first-self.false c.in-Some-read_form.ensures in
    record { on = λ f. (tt, f, one_fewer _ _ _ e); keeps = tt; rests = λ f. tt }

pub returns-in-None-clause-steps : goal.returns-in-None-clause-steps
returns-in-None-clause-steps c = left_faulty (syntax_of c.args.self.now.expander) c.args.self.now.owes_mark _ c.if-self.false c.in-Some.first (chars c.in-Some.after.now) c.in-Some.ensures.chars c.if-first-self.false c.in-None.ensures

pub returns-in-None-clause-goes : goal.returns-in-None-clause-goes
returns-in-None-clause-goes c =
    let e = left_faulty (syntax_of c.args.self.now.expander) c.args.self.now.owes_mark _ c.if-self.false c.in-Some.first (chars c.in-Some.after.now) c.in-Some.ensures.chars c.if-first-self.false c.in-None.ensures in
    record { on = λ f. (tt, f, one_fewer _ _ _ e); keeps = tt; rests = λ f. tt }
