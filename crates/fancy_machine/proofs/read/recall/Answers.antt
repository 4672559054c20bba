use Rattle.std.proofs.Common.{Option, sym, ap, ◌∙◌}
use Rattle.fancy_input.specs.declared.span.Span.{Span}
use Rattle.fancy_code.specs.Code.{instrs_of}
use Rattle.fancy_meaning.specs.Backreference.{past_span}
use Rattle.fancy_machine.specs.Attempt.{attempt_context}
use Rattle.fancy_machine.proofs.RecallLemmas.{recall_seen}
use Rattle.fancy_machine.proofs.MachineSteps.{recalled_by}
use Rattle.fancy_machine.proofs.read.recall.Goals as goal

pub returns : goal.returns
returns c =
    record {
      most = c.advance_after.ensures.most;
      stepped = λ e deep w known. recalled_by (attempt_context c.args.attempt.now) (instrs_of c.args.attempt.now.code.now) deep c.args.trail.now.now c.args.trail.now.frames w known
          c.advance_after.result c.args.folded c.args.group c.args.moved c.args.still _ c.advance_after.new.trail.now c.advance_after.new.trail.frames e
          (recall_seen (attempt_context c.args.attempt.now) c.args.folded c.args.group c.args.trail.now.now.state
          ∙ ap (λ (o : Option Span). past_span (attempt_context c.args.attempt.now) c.args.folded o c.args.trail.now.now.state.place) (sym c.span.ensures)
          ∙ ap (past_span (attempt_context c.args.attempt.now) c.args.folded _) (sym c.place.ensures)
          ∙ sym (c.past_span-past.ensures (attempt_context c.args.attempt.now)))
          c.advance_after.ensures.way c.advance_after.ensures.frames;
    }
