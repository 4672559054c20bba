use Rattle.std.proofs.Common.{◌∙◌, arith, sym, true≢false}
use Rattle.fancy_code.specs.Code.{instrs_of}
use Rattle.fancy_code.proofs.InstructionLemmas.{length-instrs_of}
use Rattle.fancy_states.proofs.PlainLemmas.{no_end_all, no_end_more}
use Rattle.fancy_states.proofs.plain.ends_no_group.Goals as goal

pub returns : goal.returns
returns c = λ _. no_end_all (instrs_of c.args.code.now) c.loop-at.at (omega (arith, c.len-at-end.ensures, length-instrs_of c.args.code.now)) c.loop-at.invariant

pub loop-at-preserved : goal.loop-at-preserved
loop-at-preserved c = no_end_more (instrs_of c.args.code.now) c.loop-at.at c.loop-at.invariant
    (λ group next e. true≢false (sym (c.ends_group.ensures c.args.code.now group next (c.instr.ensures.instr ∙ e)) ∙ c.if-ends_group.false))
