use Rattle.std.proofs.Common.{arith, refl, sym, ◌∙◌}
use Rattle.fancy_template.specs.Checks.{no_number}
use Rattle.fancy_template.proofs.CheckLemmas.{number_refused}
use Rattle.fancy_template.proofs.check.check_number.Goals as goal

pub returns-else-number-group_count-clause-refused : goal.returns-else-number-group_count-clause-refused
returns-else-number-group_count-clause-refused g c = (no_number c.args.number, number_refused (g.G.GroupNames.groups c.args.regex.now) c.args.number (omega arith) (sym c.has_names.ensures ∙ c.if-has_names.false) (omega arith), refl)
