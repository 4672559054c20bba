use Rattle.std.proofs.Common.{◌∙◌, rules}
use Rattle.fancy_code.specs.Code.{instrs_of}
use Rattle.fancy_machine.specs.Attempt.{attempt_context}
use Rattle.fancy_machine.proofs.MachineSteps.{entered}
use Rattle.fancy_machine.proofs.choice.begin_atom.Goals as goal

pub returns : goal.returns
returns c a = record {
  stepped = λ e deep w known. rw (c.go.ensures.now, c.go.ensures.frames, c.enter.ensures.now, c.in_ok-enter.ensures.laid) (entered (attempt_context a) (instrs_of a.code.now) deep c.args.trail.now.now c.args.trail.now.frames w known c.args.body e);
  refused = search rules;
  most = c.go.ensures.most ∙ c.enter.ensures.most;
}
