use Rattle.fancy_code.specs.Code.{instrs_of}
use Rattle.fancy_code.specs.Texts.{ConsumesTo}
use Rattle.fancy_code.proofs.text.text_of.Given as goal

abbrev pub invariant-loop : goal.invariant-loop
invariant-loop l = ConsumesTo (instrs_of l.code) l.code.meaning l.bytes.items l.head l.at
