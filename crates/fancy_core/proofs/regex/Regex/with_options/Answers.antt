use Rattle.std.proofs.Common.{refl}
use Rattle.std.proofs.lemmas.Result.{err_from_is_err_and}
use Rattle.fancy_core.proofs.BuiltLemmas.{is_refused}
use Rattle.fancy_core.proofs.regex.Regex.with_options.Goals as goal

pub returns-in_err-program : goal.returns-in_err-program
returns-in_err-program c =
    let q = err_from_is_err_and c.from_residual.result c.from_residual.ensures.1 in
    rw (q.1, q.2) (is_refused _ _ _ (rw c.as_str.ensures.value at c.in_err-program.ensures.refused) (rw c.as_str.ensures.value at c.in_err-program.ensures.succeeds))

pub invariant_of-result : goal.invariant_of-result
invariant_of-result c = record { spelled = ∣ rw c.in_ok-program.ensures.options (rw c.as_str.ensures.value at c.in_ok-program.ensures.spelled) ∣₁ }

pub returns : goal.returns
returns c = record {
  text = refl;
  options = c.in_ok-program.ensures.options;
  spelled = rw c.as_str.ensures.value at c.in_ok-program.ensures.spelled;
  sized = c.in_ok-program.ensures.sized;
  refused = tt;
  succeeds = λ p h. tt;
}
