use Rattle.std.proofs.Common.{Err, ap, ◌∙◌}
use Rattle.fancy_machine.proofs.MachineLemmas.{goes_back_then, back_takes_then, back_refused_then}
use Rattle.fancy_machine.proofs.RefusalLemmas.{passed_on}
use Rattle.fancy_machine.proofs.attempt.Attempt.back.Goals as goal

pub returns-in_err-pass_back-clause-takes : goal.returns-in_err-pass_back-clause-takes
returns-in_err-pass_back-clause-takes c = record {
  bounded = c.pass_back.ensures.takes.bounded;
  refused = λ e. c.in_err-pass_back.ensures.takes.refused (ap Err (passed_on c.from_residual.result _ _ c.from_residual.ensures.1 e));
  saved = λ e. c.in_err-pass_back.ensures.takes.saved (ap Err (passed_on c.from_residual.result _ _ c.from_residual.ensures.1 e));
  most = c.pass_back.ensures.takes.most;
}

pub returns-clause-back : goal.returns-clause-back
returns-clause-back c =
    goes_back_then c.args.self.now c.args.limit c.args.trail.now c.pass_back.new.trail c.back.new.self c.args.work.now c.pass_back.new.work c.back.new.work c.in_ok-pass_back.ensures.passed c.pass_back.ensures.adds.returns
    c.back.result c.back.ensures.took

pub returns-clause-takes : goal.returns-clause-takes
returns-clause-takes c = record {
  bounded = back_takes_then c.args.self.now c.args.limit c.args.trail.now c.pass_back.new.trail c.back.new.self c.args.work.now c.pass_back.new.work c.back.new.work c.in_ok-pass_back.ensures.passed c.pass_back.ensures.adds.returns
      c.pass_back.ensures.takes.bounded c.back.result c.back.ensures.took;
  refused = back_refused_then c.args.self.now c.args.limit c.args.trail.now c.pass_back.new.trail c.back.new.self c.args.work.now c.pass_back.new.work c.back.new.work c.in_ok-pass_back.ensures.passed c.pass_back.ensures.adds.returns
      c.back.result c.back.ensures.took;
  saved = λ e. rw e at c.back.ensures.took;
  most = c.back.ensures.most ∙ c.pass_back.ensures.takes.most;
}
