use Rattle.std.proofs.Common.{arith}
use Rattle.fancy_search.proofs.StartLemmas.{program_anywhere, program_at_end, program_at_byte}
use Rattle.fancy_search.proofs.program.Program.may_start_before.Goals as goal

pub returns-in-None : goal.returns-in-None
returns-in-None c = program_anywhere c.args.self.now c.args.next c.in-None.is

pub returns-in-None-next : goal.returns-in-None-next
returns-in-None-next c = program_at_end c.args.self.now c.in-Some.starts c.args.next c.in-Some.is c.in-None-next.is

pub returns-in-Some-next : goal.returns-in-Some-next
returns-in-Some-next c =
    program_at_byte c.args.self.now c.in-Some.starts c.args.next c.in-Some-next.byte c.contains.result (omega arith) c.in-Some.is c.in-Some-next.is c.contains.ensures
