use Rattle.std.proofs.Common.{sym, ap, ◌∙◌, arith}
use Rattle.std.proofs.lemmas.Option.{none-some, same_Some}
use Rattle.fancy_code.specs.declared.found.Found.{Found}
use Rattle.fancy_regex.proofs.tokens.longest.found_past.Goals as goal
use Rattle.fancy_regex.proofs.tokens.longest.found_past.Goals.{else-found-place-via-then-found-place+else-found-end, else-found-place-via-else-found-place}

pub returns-in_err-found-clause-none : goal.returns-in_err-found-clause-none
returns-in_err-found-clause-none c = rw c.from_residual.ensures (λ f is starts. absurd (none-some f (sym c.in_err-found.was ∙ is)))

pub returns-then-found-end-clause-past : goal.returns-then-found-end-clause-past
returns-then-found-end-clause-past c = record { is = c.in_ok-found.was; starts = c.if-found-place.true; past = c.if-found-end.true }

pub returns-else-found-place-clause-none : goal.returns-else-found-place-clause-none
returns-else-found-place-clause-none c f is starts =
    let same = same_Some c.in_ok-found.found f (sym c.in_ok-found.was ∙ is) in
    let start = ap (λ (x : Found). x.start) same in
    let end = ap (λ (x : Found). x.end) same in
    elim c.else-found-place.branch [
      | else-found-place-via-then-found-place+else-found-end w ↦ (let short = w.if-found-end.false in omega (arith, short, end))
      | else-found-place-via-else-found-place w ↦ (let other = w.if-found-place.false in absurd (omega (arith, start, starts, other)))
    ]
