use Rattle.std.proofs.Common.{sym, ap, ◌∙◌}
use Rattle.fancy_code.specs.Instructions.{Instruction}
use Rattle.fancy_code.specs.Code.{instr_in}
use Rattle.fancy_runner.specs.Threads.{slots_past}
use Rattle.fancy_runner.proofs.threads.write_group.Goals as goal

pub returns-in-Open : goal.returns-in-Open
returns-in-Open c =
    c.begin_group.ensures c.in-Open.field-1
    ∙ ap (λ (i : Instruction). slots_past i c.args.pair.place c.args.slots.now.items) (sym (ap (instr_in c.args.code.now) c.in-Open.is) ∙ c.instr.ensures.instr)

pub returns-in-Close : goal.returns-in-Close
returns-in-Close c =
    c.end_group.ensures c.in-Close.field-1
    ∙ ap (λ (i : Instruction). slots_past i c.args.pair.place c.args.slots.now.items) (sym (ap (instr_in c.args.code.now) c.in-Close.is) ∙ c.instr.ensures.instr)
