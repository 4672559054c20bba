use Rattle.std.proofs.Common.{refl, ap, ◌∙◌}
use Rattle.fancy_code.specs.Instructions as i
use Rattle.fancy_code.specs.Code.{instrs_of}
use Rattle.fancy_meaning.specs.Context.{continues}
use Rattle.fancy_machine.specs.Attempt.{attempt_context}
use Rattle.fancy_machine.proofs.MachineSteps.{went_by}
use Rattle.fancy_machine.proofs.condition.test_continued.Goals as goal

pub returns : goal.returns
returns c =
    record {
      most = c.go_if.ensures.most;
      stepped = λ e deep w known. went_by (attempt_context c.args.attempt.now) (instrs_of c.args.attempt.now.code.now) deep c.args.trail.now.now c.args.trail.now.frames w known
          c.go_if.result (i.Continue c.args.next) c.args.next c.is_continued-holds.result _ c.go_if.new.trail.now c.go_if.new.trail.frames e refl
          (c.is_continued-holds.ensures ∙ ap (continues (attempt_context c.args.attempt.now)) c.place.ensures)
          c.go_if.ensures.way c.go_if.ensures.frames;
    }
