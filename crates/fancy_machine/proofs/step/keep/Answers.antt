use Rattle.fancy_code.specs.Code.{instrs_of}
use Rattle.fancy_machine.specs.Attempt.{attempt_context}
use Rattle.fancy_machine.proofs.MachineSteps.{kept}
use Rattle.fancy_machine.proofs.step.keep.Goals as goal

pub returns : goal.returns
returns c a = record {
  stepped = λ e deep w known. rw (c.keep.ensures.now, c.keep.ensures.frames) (kept (attempt_context a) (instrs_of a.code.now) deep c.args.trail.now.now c.args.trail.now.frames w known c.args.next e);
  most = c.keep.ensures.most;
}
