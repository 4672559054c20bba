use Rattle.std.proofs.Common.{rules, arith}
use Rattle.fancy_template.proofs.WriteLemmas.{appends_more, begun_more, begun_all, begun_refused, begun_stopped}
use Rattle.std.proofs.lemmas.Result.{err_from_is_err_and}
use Rattle.fancy_template.proofs.write.write_whole.Goals as goal

pub loop-at-preserved : goal.loop-at-preserved
loop-at-preserved g c = record {
  within = search rules;
  taken = appends_more _ _ _ _ _ _ c.loop-at.invariant.taken (rw (← c.split_at.ensures.back) c.in_ok-count.ensures.bytes);
  begun = begun_more g.W.Writer.answers _ _ _ _ _ _ _ c.split_at.ensures.back c.loop-at.invariant.begun (omega arith) c.in_ok-count.ensures.bound c.in_ok-count.ensures.answer;
}

pub returns-in_err-count-clause-calls : goal.returns-in_err-count-clause-calls
returns-in_err-count-clause-calls g c =
    let q = err_from_is_err_and c.from_residual.result c.from_residual.ensures.1 in
    rw q.1 (rw q.2 (begun_refused g.W.Writer.answers _ _ _ _ _ _ _ c.split_at.ensures.back c.loop-at-test.true c.loop-at.invariant.begun c.in_err-count.ensures.answer))

pub returns-then-count-eq0-clause-calls : goal.returns-then-count-eq0-clause-calls
returns-then-count-eq0-clause-calls g c = begun_stopped g.W.Writer.answers _ _ _ _ _ _ _ c.split_at.ensures.back c.loop-at-test.true c.loop-at.invariant.begun (rw c.if-count-eq0.true at c.in_ok-count.ensures.answer) c.into.ensures

pub returns-clause-calls : goal.returns-clause-calls
returns-clause-calls g c = begun_all g.W.Writer.answers _ _ _ _ c.loop-at-test.false c.loop-at.invariant.begun
