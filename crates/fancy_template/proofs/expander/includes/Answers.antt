use Rattle.std.proofs.Common.{rules, ◌==◌}
use Rattle.std.proofs.lemmas.Iterator.{YieldsList-from_chars}
use Rattle.std.proofs.lemmas.Iterator.Search.{any_from_yields_List}
use Rattle.fancy_template.proofs.expander.includes.Goals as goal

pub returns : goal.returns
returns c = any_from_yields_List (λ d. d == c.args.mark) _ _ _ c.any.ensures.ran (YieldsList-from_chars c.args.text.now c.utf8.text cc) (λ x b q k. search rules)
