use Rattle.std.proofs.Common.{refl, ap, chars, inr}
use Rattle.fancy_template.proofs.check.no_group_named.Goals as goal

pub returns-in-Ok : goal.returns-in-Ok
returns-in-Ok g c = inr (c.in-Ok.name, refl, ap chars c.in-Ok.ensures.ok)
