use Rattle.std.proofs.Common.{Err, ap, refl}
use Rattle.fancy_machine.proofs.AnswerLemmas.{answers_err, limits_err}
use Rattle.fancy_machine.proofs.search.try_position.Goals as goal

pub returns-in_err-found-clause-answers : goal.returns-in_err-found-clause-answers
returns-in_err-found-clause-answers g c =
    let a = c.in_err-found.ensures.answers in
    answers_err c.from_residual.result _ c.from_residual.ensures.1 a.bounded (λ is. a.refused (ap Err is)) (λ is. a.crowded (ap Err is)) a.heeds a.counts
    (limits_err c.from_residual.result _ c.from_residual.ensures.1 (λ is. is) refl a.limits)

pub returns-then-found-clause-answers : goal.returns-then-found-clause-answers
returns-then-found-clause-answers g c = rw (c.kept.ensures, c.place.ensures) (rw c.if-found.true at c.in_ok-found.ensures.answers)

pub returns-clause-answers : goal.returns-clause-answers
returns-clause-answers g c = rw c.if-found.false at c.in_ok-found.ensures.answers
