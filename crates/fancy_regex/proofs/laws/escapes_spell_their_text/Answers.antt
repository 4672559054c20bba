use Rattle.std.proofs.Common.{chars}
use Rattle.fancy_regex.proofs.EscapedLiteralLemmas.{escape_spells, spells_escape}
use Rattle.fancy_regex.proofs.laws.escapes_spell_their_text.Goals as goal

pub returns : goal.returns
returns c p = (escape_spells (chars c.args._text.now) p, spells_escape (chars c.args._text.now) p)
