use Rattle.std.proofs.Common.{◌≡◌, ◌∙◌, Err, Ok, Result, ap, subst, sym}
use Rattle.std.specs.Result.{IsErrAnd}
use Rattle.fancy_tree.specs.declared.error.Error.{Error}
use Rattle.fancy_input.specs.declared.input.Request.{Request}
use Rattle.fancy_core.specs.Limited.{AllowsEachStep}
use Rattle.fancy_core.proofs.regex.Regex.captures_input.Goals as goal

error_in : {A : Type 0} → Error → Result A Error → Error
error_in d (Ok x) = d
error_in d (Err e) = e

passed_on : {A : Type 0} (r : Result A Error) (e d : Error) → IsErrAnd r (λ (x : Error). x ≡ e) → r ≡ Err d → e ≡ d
unfolding error_in
passed_on (Ok x) e d h is = absurd h
passed_on (Err x) e d h is = sym h ∙ ap (error_in x) is

pub returns-in_err-found-clause-unlimited : goal.returns-in_err-found-clause-unlimited
returns-in_err-found-clause-unlimited g c easy allows out =
    c.in_err-found.ensures.unlimited easy (subst (λ (r : Request). AllowsEachStep c.args.self.now r) (sym c.request.ensures.value) allows)
    (ap Err (passed_on c.from_residual.result _ _ c.from_residual.ensures.1 out))
