use Rattle.std.proofs.Common.{List, ℕ, ◌≡◌, ◌∙◌, ap, map, chars, Ok}
use Rattle.std.specs.Io.KnownBytes.{Appends}
use Rattle.std.proofs.KnownBytes.{Appends-nil}
use Rattle.std.proofs.lemmas.Result.{err_from_is_err_and}
use Rattle.fancy_template.specs.declared.steps.Steps.{Steps}
use Rattle.fancy_template.specs.Templates.{steps}
use Rattle.fancy_template.specs.Expansions.{expanded}
use Rattle.fancy_template.specs.Expanders.{syntax_of, step_of, steps_left}
use Rattle.fancy_template.specs.Writers.{over}
use Rattle.fancy_template.proofs.ExpansionLemmas.{given_none, given_more, given_all, written_more, written_part}
use Rattle.fancy_template.proofs.WriteLemmas.{written_text, refused_text}
use Rattle.fancy_template.proofs.expander.Expander.write_expansion.Goals as goal

pub loop-step-init : goal.loop-step-init
loop-step-init g c =
    let k = g.C.GroupTexts.captured c.args.captures.now in
    let all : steps_left c.into_iter-step-iterator.result ≡ steps (syntax_of c.args.self.now) (chars c.args.template.now) = ap (λ (z : Steps). steps_left z) c.into_iter-step-iterator.ensures.into_iter_gives ∙ c.steps-step-items.ensures in
    record {
      given = given_none _ _ _ _ _ all (Appends-nil _);
      written = λ result last w. rw (ap (map (expanded k)) all) at w;
    }

pub loop-step-preserved : goal.loop-step-preserved
loop-step-preserved g c =
    let k = g.C.GroupTexts.captured c.args.captures.now in
    let next = rw c.in-Some.is at c.next.ensures.steps in
    record {
      given = given_more _ _ _ _ _ _ _ next (λ done h. written_more k (step_of c.in-Some.step) _ _ _ _ done c.in_ok-write_expanded.ensures.ok c.expand_step.ensures h) c.loop-step.invariant.given;
      written = written_text g.W.Writer.answers _ _ _ _ _ _ (rw (ap (map (expanded k)) next) at c.loop-step.invariant.written) (rw c.expand_step.ensures at c.in_ok-write_expanded.ensures.calls);
    }

pub returns-in_err-write_expanded-clause-err : goal.returns-in_err-write_expanded-clause-err
returns-in_err-write_expanded-clause-err g c =
    let q = err_from_is_err_and c.from_residual.result c.from_residual.ensures.1 in
    rw q.1 (written_part _ _ _ _ _ _ _ _ _ (rw c.in-Some.is at c.next.ensures.steps) c.expand_step.ensures c.in_err-write_expanded.ensures.err c.loop-step.invariant.given)

pub returns-in_err-write_expanded-clause-fault : goal.returns-in_err-write_expanded-clause-fault
returns-in_err-write_expanded-clause-fault g c =
    let q = err_from_is_err_and c.from_residual.result c.from_residual.ensures.1 in
    rw q.1 (rw q.2 c.in_err-write_expanded.ensures.fault)

pub returns-clause-ok : goal.returns-clause-ok
returns-clause-ok g c =
    let over = rw c.in-None.is at c.next.ensures.steps in
    given_all _ _ (λ (done : List ℕ). Appends (g.W.Writer.contents c.args.writer.now) (g.W.Writer.contents c.loop-step.writer) done) _ over.0 c.loop-step.invariant.given

pub returns-in_err-write_expanded-clause-calls : goal.returns-in_err-write_expanded-clause-calls
returns-in_err-write_expanded-clause-calls g c =
    let k = g.C.GroupTexts.captured c.args.captures.now in
    let q = err_from_is_err_and c.from_residual.result c.from_residual.ensures.1 in
    let next = rw c.in-Some.is at c.next.ensures.steps in
    rw q.1 (rw q.2 (refused_text g.W.Writer.answers _ _ _ _ _ _ _ (rw (ap (map (expanded k)) next) at c.loop-step.invariant.written) (rw c.expand_step.ensures at c.in_err-write_expanded.ensures.calls)))

pub returns-clause-calls : goal.returns-clause-calls
returns-clause-calls g c =
    let k = g.C.GroupTexts.captured c.args.captures.now in
    let done = rw c.in-None.is at c.next.ensures.steps in
    (rw (ap (map (expanded k)) done.0) at c.loop-step.invariant.written) (Ok tt) c.loop-step.writer (over c.loop-step.writer)
