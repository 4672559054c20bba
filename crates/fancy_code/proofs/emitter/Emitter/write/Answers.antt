use Rattle.std.proofs.Common.{refl}
use Rattle.fancy_code.proofs.InstructionLemmas.{known_written, with_sets-written}
use Rattle.fancy_code.proofs.emitter.Emitter.write.Goals as goal

pub invariant_of-self : goal.invariant_of-self
invariant_of-self c = record { known = known_written _ c.args.self.now.instrs.items _ c.args.at c.args.instr refl c.args.self.now.known c.requires.known }

pub returns-clause-items : goal.returns-clause-items
returns-clause-items c = with_sets-written c.args.self.now.sets.items c.args.self.now.instrs.items _ c.args.at c.args.instr refl
