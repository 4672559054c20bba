use Rattle.std.proofs.Common.{◌∙◌, rules}
use Rattle.fancy_code.specs.Code.{instrs_of}
use Rattle.fancy_machine.specs.Attempt.{attempt_context}
use Rattle.fancy_machine.proofs.MachineSteps.{looked}
use Rattle.fancy_machine.proofs.choice.begin_look.Goals as goal

pub returns : goal.returns
returns c = record {
  stepped = λ e deep w known. rw (c.enter_body.ensures.now, c.enter_body.ensures.frames, c.enter.ensures.now, c.in_ok-enter.ensures.laid) (looked (attempt_context c.args.attempt.now) (instrs_of c.args.attempt.now.code.now) deep c.args.trail.now.now c.args.trail.now.frames w known c.args.behind c.args.body c.args.next e);
  refused = search rules;
  most = c.enter_body.ensures.most ∙ c.enter.ensures.most;
}
