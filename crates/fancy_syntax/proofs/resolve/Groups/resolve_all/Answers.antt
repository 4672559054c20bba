use Rattle.std.proofs.Common.{◌++◌, [], ◌∷◌, sym, ap, ◌∙◌}
use Rattle.std.proofs.lemmas.Result.{err_from_is_err_and}
use Rattle.fancy_syntax.specs.Views.{groups_of}
use Rattle.fancy_syntax.proofs.ResolveLemmas.{numbers_more, resolved_more, refused_here}
use Rattle.fancy_syntax.proofs.resolve.Groups.resolve_all.Goals as goal

pub returns-in_err-number-clause-refused : goal.returns-in_err-number-clause-refused
returns-in_err-number-clause-refused c =
    let p = err_from_is_err_and c.from_residual.result c.from_residual.ensures.1 in
    rw (p.1, p.2)
    (refused_here (groups_of c.args.self.now) c.args.targets.now c.loop-target.target-index c.target-item.result c.loop-target-test.true c.target-item.is c.in_err-number.field-0.0 c.in_err-number.ensures)

pub loop-target-preserved : goal.loop-target-preserved
loop-target-preserved c = record {
  numbers = c.in_ok-push.ensures.items
      ∙ (ap (λ l. l ++ c.in_ok-number.number ∷ []) c.loop-target.invariant.numbers
      ∙ sym (numbers_more (groups_of c.args.self.now) c.args.targets.now c.loop-target.target-index c.target-item.result c.loop-target-test.true c.target-item.is c.in_ok-number.number c.in_ok-number.ensures));
  resolved = resolved_more (groups_of c.args.self.now) c.args.targets.now c.loop-target.target-index c.target-item.result c.loop-target-test.true c.target-item.is c.in_ok-number.number c.in_ok-number.ensures
      c.loop-target.invariant.resolved;
}
