use Rattle.std.proofs.lemmas.Result.{err_from_is_err_and}
use Rattle.fancy_search.proofs.byte_sets.start_bytes.Goals as goal

pub returns-in_err-parsed-clause-succeeds : goal.returns-in_err-parsed-clause-succeeds
returns-in_err-parsed-clause-succeeds c =
    let q = err_from_is_err_and c.from_residual.result c.from_residual.ensures.1 in
    rw (q.1, q.2) (λ p h. c.in_err-parsed.ensures.succeeds p (rw c.parse_options.ensures h))
