use Rattle.std.proofs.Common.{rules}
use Rattle.fancy_code.specs.Code.{instrs_of}
use Rattle.fancy_machine.specs.Attempt.{attempt_context}
use Rattle.fancy_machine.proofs.MachineSteps.{closed}
use Rattle.fancy_machine.proofs.step.end_group.Goals as goal

pub returns : goal.returns
returns c a = record {
  stepped = λ e deep w known. rw (c.in_ok-close_group.ensures.now, c.in_ok-close_group.ensures.frames) (closed (attempt_context a) (instrs_of a.code.now) deep c.args.trail.now.now c.args.trail.now.frames w known c.args.group c.args.next e);
  refused = search rules;
  most = c.close_group.ensures.most;
}
