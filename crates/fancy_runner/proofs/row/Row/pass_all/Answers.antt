use Rattle.std.proofs.Common.{◌∙◌, sym}
use Rattle.std.proofs.lemmas.Bool.{eqb-true}
use Rattle.fancy_runner.proofs.RowLemmas.{one_turned}
use Rattle.fancy_runner.proofs.row.Row.pass_all.Goals as goal

pub returns-then-is_one-clause-row : goal.returns-then-is_one-clause-row
returns-then-is_one-clause-row c =
    c.swap.ensures.y_after
    ∙ one_turned c.args.self.now c.args.row.now (eqb-true _ 1 (sym c.is_one.ensures ∙ c.if-is_one.true)) (eqb-true _ 0 (sym c.is_empty.ensures ∙ c.if-is_empty.true))
