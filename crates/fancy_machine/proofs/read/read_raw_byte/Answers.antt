use Rattle.std.proofs.Common.{refl, ap, ◌∙◌}
use Rattle.fancy_code.specs.Instructions as i
use Rattle.fancy_code.specs.Code.{instrs_of}
use Rattle.fancy_meaning.specs.Context.{past_byte}
use Rattle.fancy_machine.specs.Attempt.{attempt_context}
use Rattle.fancy_machine.proofs.ContinuesLemmas.{byte_seen, suppressed_of}
use Rattle.fancy_machine.proofs.MachineSteps.{read_by}
use Rattle.fancy_machine.proofs.read.read_raw_byte.Goals as goal

pub returns : goal.returns
returns c =
    record {
      most = c.advance.ensures.most;
      stepped = λ e deep w known. read_by (attempt_context c.args.attempt.now) (instrs_of c.args.attempt.now.code.now) deep c.args.trail.now.now c.args.trail.now.frames w known
          c.advance.result (i.RawByte c.args.byte c.args.next) c.args.next c.past_raw_byte-past.result _ c.advance.new.trail.now c.advance.new.trail.frames e refl
          (c.past_raw_byte-past.ensures.past c.args.attempt.now.code.now.meaning (suppressed_of (attempt_context c.args.attempt.now)) 0
          ∙ byte_seen c.args.attempt.now.haystack.now c.args.attempt.now.code.now.meaning (attempt_context c.args.attempt.now) (suppressed_of (attempt_context c.args.attempt.now)) 0 c.place.result c.args.byte
          ∙ ap (past_byte (attempt_context c.args.attempt.now) c.args.byte) c.place.ensures)
          c.advance.ensures.way c.advance.ensures.frames;
    }
