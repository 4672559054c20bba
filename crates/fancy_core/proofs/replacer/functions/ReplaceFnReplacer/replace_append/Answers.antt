use Rattle.std.proofs.Common.{rules, refl, inl, inr}
use Rattle.std.proofs.lemmas.Result.{err_from_is_err_and}
use Rattle.fancy_core.proofs.replacer.functions.ReplaceFnReplacer.replace_append.Goals as goal

pub returns-in_err-push_str-in-Ok-clause-refused : goal.returns-in_err-push_str-in-Ok-clause-refused
returns-in_err-push_str-in-Ok-clause-refused g c =
    let q = err_from_is_err_and c.from_residual.result c.from_residual.ensures.1 in
    rw q.1 (c.args.captures, refl, inr (search rules, c.in-Ok.text, search rules))

pub returns-in-Err-clause-refused : goal.returns-in-Err-clause-refused
returns-in-Err-clause-refused g c = (c.args.captures, refl, inl (search rules))
