use Rattle.std.proofs.Common.{List, ℕ, ◌≡◌, ◌++◌, ◌∙◌, ap, sym, string_bytes, append-nil}
use Rattle.std.proofs.lemmas.Result.{err_from_is_err_and}
use Rattle.fancy_template.specs.declared.steps.Steps.{Steps}
use Rattle.fancy_template.specs.Expanders.{step_of, steps_left}
use Rattle.fancy_template.proofs.ExpansionLemmas.{given_none, given_more, given_all, text_more}
use Rattle.fancy_template.proofs.expander.Expander.push_steps.Goals as goal

pub loop-step-init : goal.loop-step-init
loop-step-init g c = given_none _ _ _ _ _ (ap (λ (z : Steps). steps_left z) c.into_iter-step-iterator.ensures.into_iter_gives ∙ c.steps-step-items.ensures) (sym (append-nil _))

pub loop-step-preserved : goal.loop-step-preserved
loop-step-preserved g c = given_more _ _ _ _ _ _ _ (rw c.in-Some.is at c.next.ensures.steps) (λ done h. text_more (g.C.GroupTexts.captured c.args.captures.now) (step_of c.in-Some.step) _ _ _ _ done c.in_ok-push_expanded.ensures.value c.expand_step.ensures h) c.loop-step.invariant

pub returns-in_err-push_expanded-clause-begun : goal.returns-in_err-push_expanded-clause-begun
returns-in_err-push_expanded-clause-begun g c =
    let q = err_from_is_err_and c.from_residual.result c.from_residual.ensures.1 in
    rw q.1 (c.loop-step.invariant.done, c.in_err-push_expanded.ensures.kept ∙ c.loop-step.invariant.holds)

pub returns-clause-value : goal.returns-clause-value
returns-clause-value g c =
    let over = rw c.in-None.is at c.next.ensures.steps in
    given_all _ _ (λ (done : List ℕ). string_bytes c.loop-step.dst ≡ string_bytes c.args.dst.now ++ done) _ over.0 c.loop-step.invariant
