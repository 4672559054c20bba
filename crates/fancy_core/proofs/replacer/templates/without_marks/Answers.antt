use Rattle.std.proofs.Common.{sym, ◌∙◌}
use Rattle.fancy_core.proofs.FixedLemmas.{fixed_none, fixed_some}
use Rattle.fancy_core.proofs.replacer.templates.without_marks.Goals as goal

pub returns-then-includes : goal.returns-then-includes
returns-then-includes c = fixed_none c.args.template.now (sym c.includes.ensures ∙ c.if-includes.true)

pub returns-else-includes : goal.returns-else-includes
returns-else-includes c = fixed_some c.args.template.now c.utf8.template (sym c.includes.ensures ∙ c.if-includes.false)
