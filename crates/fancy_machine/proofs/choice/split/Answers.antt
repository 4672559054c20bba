use Rattle.std.proofs.Common.{Err, ap, arith, ◌∙◌, rules}
use Rattle.fancy_code.specs.Code.{instrs_of}
use Rattle.fancy_machine.specs.Attempt.{attempt_context}
use Rattle.fancy_machine.proofs.RefusalLemmas.{passed_on}
use Rattle.fancy_machine.proofs.MachineSteps.{parted, parted_crowded}
use Rattle.fancy_machine.proofs.choice.split.Goals as goal

pub returns : goal.returns
returns c a = record {
  stepped = λ e deep w known. rw (c.go.ensures.now, c.go.ensures.frames, c.save.ensures.now, c.in_ok-save.ensures.laid) (parted (attempt_context a) (instrs_of a.code.now) deep c.args.trail.now.now c.args.trail.now.frames w known c.args.first c.args.second e);
  refused = search rules;
  unlimited = search rules;
  crowded = search rules;
  most = c.go.ensures.most ∙ c.save.ensures.most;
}

pub returns-in_err-save : goal.returns-in_err-save
returns-in_err-save c a = record {
  stepped = search rules;
  refused = λ e. c.in_err-save.ensures.refused (ap Err (passed_on c.from_residual.result _ _ c.from_residual.ensures.1 e));
  unlimited = λ e. c.in_err-save.ensures.unlimited (ap Err (passed_on c.from_residual.result _ _ c.from_residual.ensures.1 e));
  crowded = λ refused e deep w known.
      let full = c.in_err-save.ensures.full (ap Err (passed_on c.from_residual.result _ _ c.from_residual.ensures.1 refused)) in
      parted_crowded (attempt_context a) (instrs_of a.code.now) deep c.args.trail.now.now c.args.trail.now.frames w known c.args.trail.now.most c.args.first c.args.second e (omega (arith, full));
  most = c.save.ensures.most;
}
