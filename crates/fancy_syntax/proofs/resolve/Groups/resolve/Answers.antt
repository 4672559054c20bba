use Rattle.std.proofs.Common.{refl}
use Rattle.fancy_syntax.specs.References.{no_number}
use Rattle.fancy_syntax.proofs.resolve.Groups.resolve.Goals as goal

pub returns-in-Missing : goal.returns-in-Missing
returns-in-Missing c = (no_number c.in-Missing.number, refl, rw c.in-Missing.is (rw c.if-not-self.true refl))
