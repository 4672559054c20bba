use Rattle.std.proofs.Common.{refl, ap, ◌∙◌}
use Rattle.fancy_code.specs.Instructions as i
use Rattle.fancy_code.specs.Code.{instrs_of}
use Rattle.fancy_meaning.specs.Context.{holds}
use Rattle.fancy_machine.specs.Attempt.{attempt_context}
use Rattle.fancy_machine.proofs.ContinuesLemmas.{holds_seen}
use Rattle.fancy_machine.proofs.MachineSteps.{went_by}
use Rattle.fancy_machine.proofs.condition.assert_at.Goals as goal

pub returns-clause-followed : goal.returns-clause-followed
returns-clause-followed c =
    record {
      most = c.go_if.ensures.most;
      stepped = λ e deep w known. went_by (attempt_context c.args.attempt.now) (instrs_of c.args.attempt.now.code.now) deep c.args.trail.now.now c.args.trail.now.frames w known
          c.go_if.result (i.Assert c.args.assertion c.args.next) c.args.next c.holds_at-holds.result _ c.go_if.new.trail.now c.go_if.new.trail.frames e refl
          (c.holds_at-holds.ensures.held 0 ∙ holds_seen (attempt_context c.args.attempt.now) 0 c.place.result c.args.assertion ∙ ap (holds (attempt_context c.args.attempt.now) c.args.assertion) c.place.ensures)
          c.go_if.ensures.way c.go_if.ensures.frames;
    }
