use Rattle.std.proofs.Common.{◌∙◌, arith}
use Rattle.fancy_code.proofs.InstructionLemmas.{length-instrs_of}
use Rattle.fancy_code.specs.Code.{instrs_of}
use Rattle.fancy_alphabet.proofs.SideLemmas.{told_all, told_more}
use Rattle.fancy_alphabet.proofs.side.Tests.of_code.Goals as goal

pub loop-at-init : goal.loop-at-init
loop-at-init c q lt = absurd (omega (arith, lt))

pub loop-at-preserved : goal.loop-at-preserved
loop-at-preserved c =
    told_more (instrs_of c.args.code.now) c.loop-at.at c.loop-at.tests c.with-tests.result c.loop-at.invariant c.with-tests.ensures.kept
    (λ a next e. c.with-tests.ensures.told c.args.code.now a next (c.instr.ensures.instr ∙ e))

pub returns : goal.returns
returns c = told_all (instrs_of c.args.code.now) c.loop-at.at c.loop-at.tests (omega (arith, c.len-at-end.ensures, length-instrs_of c.args.code.now)) c.loop-at.invariant
