use Rattle.std.proofs.Common.{arith}
use Rattle.fancy_machine.proofs.MachineLemmas.{held_ok}
use Rattle.fancy_machine.proofs.PassLemmas.{passes_back, back_takes}
use Rattle.fancy_machine.proofs.attempt.Attempt.pass_back.Goals as goal

pub returns-clause-passed : goal.returns-clause-passed
returns-clause-passed c =
    held_ok c.count_returns.result
    (λ counted. passes_back c.args.self.now c.pass_over-passed.result c.args.trail.now c.pass_over-passed.new.trail c.pass_over-passed.ensures.passed _ (omega (arith, counted))) c.count_returns.ensures.counted

pub returns-clause-takes : goal.returns-clause-takes
returns-clause-takes c = record {
  bounded = back_takes c.args.self.now c.pass_over-passed.result c.args.trail.now c.pass_over-passed.new.trail c.pass_over-passed.ensures.passed _ _ c.count_returns.ensures.adds.most;
  refused = λ e. back_takes c.args.self.now c.pass_over-passed.result c.args.trail.now c.pass_over-passed.new.trail c.pass_over-passed.ensures.passed _ _ (omega (arith, c.count_returns.ensures.refused e));
  saved = c.count_returns.ensures.saved;
  most = c.pass_over-passed.ensures.most;
}
