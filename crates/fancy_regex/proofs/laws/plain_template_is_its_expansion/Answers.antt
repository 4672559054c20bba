use Rattle.std.proofs.Common.{refl}
use Rattle.fancy_core.specs.GroupTexts.{expansion_of}
use Rattle.fancy_core.proofs.FixedLemmas.{fixed_is_expansion}
use Rattle.fancy_regex.proofs.laws.plain_template_is_its_expansion.Goals as goal

pub returns : goal.returns
returns c = λ template seen x e. fixed_is_expansion template seen x (expansion_of template seen) e refl
