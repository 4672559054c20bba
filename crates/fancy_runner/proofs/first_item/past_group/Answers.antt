use Rattle.std.proofs.Common.{Some, sym, ap, ◌∙◌}
use Rattle.fancy_code.specs.Code.{instr_in}
use Rattle.fancy_runner.proofs.first_item.past_group.Goals as goal

pub returns-in-Open : goal.returns-in-Open
returns-in-Open c = (Some c.in-Open.field-0, sym c.instr.ensures.instr ∙ ap (instr_in c.args.code.now) c.in-Open.is)
