use Rattle.std.proofs.Common.{arith}
use Rattle.fancy_code.proofs.InstructionLemmas.{length-instrs_of}
use Rattle.fancy_code.specs.Code.{instrs_of}
use Rattle.fancy_alphabet.proofs.AlikeLemmas.{alone_all}
use Rattle.fancy_alphabet.proofs.alike.tested_alone.Goals as goal

pub returns-clause-told : goal.returns-clause-told
returns-clause-told c =
    alone_all (instrs_of c.args.code.now) c.loop-at.at c.loop-at.alone.items (omega (arith, c.len-at-end.ensures, length-instrs_of c.args.code.now)) c.loop-at.invariant.1
