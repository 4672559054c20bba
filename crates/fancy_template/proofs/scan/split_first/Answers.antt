use Rattle.std.proofs.Common.{rules}
use Rattle.std.proofs.lemmas.Str.{chars_past_char}
use Rattle.fancy_template.proofs.scan.split_first.Goals as goal

pub returns-clause-chars : goal.returns-clause-chars
returns-clause-chars c = chars_past_char _ _ _ c.utf8.text (search rules)
