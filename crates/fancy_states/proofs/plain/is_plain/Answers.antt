use Rattle.std.proofs.Common.{◌∙◌, ap, arith, refl, sym}
use Rattle.fancy_code.specs.Code.{instrs_of}
use Rattle.fancy_code.proofs.InstructionLemmas.{length-instrs_of}
use Rattle.fancy_states.specs.Futures.{is_plain_instr}
use Rattle.fancy_states.proofs.PlainLemmas.{plain_all, plain_more}
use Rattle.fancy_states.proofs.plain.is_plain.Goals as goal

pub returns : goal.returns
returns c = (λ all. plain_all (instrs_of c.args.code.now) c.loop-at.at (omega (arith, c.len-at-end.ensures, length-instrs_of c.args.code.now)) c.loop-at.invariant, λ plain. refl)

pub loop-at-preserved : goal.loop-at-preserved
loop-at-preserved c = plain_more (instrs_of c.args.code.now) c.loop-at.at c.loop-at.invariant
    (sym (ap is_plain_instr c.instr.ensures.instr) ∙ sym (c.is_plain_instr.ensures c.args.code.now) ∙ c.if-not-is_plain_instr.false)
