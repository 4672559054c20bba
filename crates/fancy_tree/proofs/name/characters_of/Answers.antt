use Rattle.std.proofs.Common.{rules}
use Rattle.std.proofs.lemmas.Str.{chars_from_encodes}
use Rattle.fancy_tree.proofs.name.characters_of.Goals as goal

pub returns : goal.returns
returns c = search (rules, chars_from_encodes)
