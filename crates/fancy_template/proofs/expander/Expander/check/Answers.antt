use Rattle.std.proofs.Common.{◌∙◌, ap}
use Rattle.std.proofs.lemmas.Result.{err_from_is_err_and}
use Rattle.fancy_template.specs.Checks.{first_fault}
use Rattle.fancy_template.proofs.CheckLemmas.{fault_after, fault_here}
use Rattle.fancy_template.proofs.expander.Expander.check.Goals as goal

pub loop-step-preserved : goal.loop-step-preserved
loop-step-preserved g c = c.loop-step.invariant ∙ fault_after (g.G.GroupNames.groups c.args.regex.now) _ _ _ (rw c.in-Some.is at c.next.ensures.steps) c.in_ok-check_step.ensures.passes

pub returns-in_err-check_step-clause-refused : goal.returns-in_err-check_step-clause-refused
returns-in_err-check_step-clause-refused g c =
    let q = err_from_is_err_and c.from_residual.result c.from_residual.ensures.1 in
    let f = c.in_err-check_step.ensures.refused in
    rw q.1 (f.0, c.loop-step.invariant ∙ fault_here (g.G.GroupNames.groups c.args.regex.now) _ _ _ f.0 (rw c.in-Some.is at c.next.ensures.steps) f.1, rw q.2 f.2)

pub returns-clause-passes : goal.returns-clause-passes
returns-clause-passes g c = let over = rw c.in-None.is at c.next.ensures.steps in c.loop-step.invariant ∙ ap (first_fault (g.G.GroupNames.groups c.args.regex.now)) over.0
