use Rattle.std.proofs.Common.{refl, sym, ap, ◌∙◌}
use Rattle.fancy_code.specs.Code.{instrs_of}
use Rattle.fancy_meaning.specs.Context.{units_back}
use Rattle.fancy_machine.specs.Attempt.{attempt_context}
use Rattle.fancy_machine.proofs.MachineSteps.{no_units, went_back}
use Rattle.fancy_machine.proofs.read.go_back.Goals as goal

pub returns-in-Some : goal.returns-in-Some
returns-in-Some c =
    record {
      most = c.go_to.ensures.most;
      stepped = λ e deep w known. rw (c.go_to.ensures.now, c.go_to.ensures.frames)
          (went_back (attempt_context c.args.attempt.now) (instrs_of c.args.attempt.now.code.now) deep c.args.trail.now.now c.args.trail.now.frames w known c.args.units c.args.next c.in-Some.place e
          (sym (c.units_back.ensures (attempt_context c.args.attempt.now) ∙ ap (units_back (attempt_context c.args.attempt.now) c.args.units) c.place.ensures) ∙ c.in-Some.is));
    }

pub returns-in-None : goal.returns-in-None
returns-in-None c =
    record {
      most = refl;
      stepped = λ e deep w known. no_units (attempt_context c.args.attempt.now) (instrs_of c.args.attempt.now.code.now) deep c.args.trail.now.now c.args.trail.now.frames w known c.args.units c.args.next c.args.trail.now.now e
          (sym (c.units_back.ensures (attempt_context c.args.attempt.now) ∙ ap (units_back (attempt_context c.args.attempt.now) c.args.units) c.place.ensures) ∙ c.in-None.is);
    }
