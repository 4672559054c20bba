use Rattle.fancy_code.proofs.InstructionLemmas.{set_is_there}
use Rattle.fancy_code.proofs.code.Code.instr.Goals as goal

pub returns-clause-known : goal.returns-clause-known
returns-clause-known c = set_is_there c.args.self.now.sets.items c.args.self.now.instrs.items c.args.at c.index.result.now c.requires.within c.index.ensures c.args.self.now.known
