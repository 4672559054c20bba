use Rattle.std.proofs.Common.{refl}
use Rattle.std.specs.Str.{chars}
use Rattle.fancy_template.proofs.expander.Delimiters.opening.Goals as goal

pub returns-in-Braces : goal.returns-in-Braces
unfolding chars
returns-in-Braces c = rw c.in-Braces.is refl

pub returns-in-Angles : goal.returns-in-Angles
unfolding chars
returns-in-Angles c = rw c.in-Angles.is refl
