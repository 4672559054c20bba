use Rattle.std.proofs.Common.{chars, sym, ◌∙◌}
use Rattle.fancy_template.specs.Checks.{no_name}
use Rattle.fancy_template.proofs.CheckLemmas.{name_refused}
use Rattle.fancy_template.proofs.check.check_name.Goals as goal

pub returns-in-None-clause-refused : goal.returns-in-None-clause-refused
returns-in-None-clause-refused g c = (no_name (chars c.args.name.now), name_refused (g.G.GroupNames.groups c.args.regex.now) (chars c.args.name.now) c.group_named.result c.group_named.ensures (sym c.is_some.ensures ∙ c.if-is_some.false) c.in-None.ensures, c.no_group_named.ensures)
