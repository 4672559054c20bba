use Rattle.fancy_regex.proofs.EscapedLiteralLemmas.{found_first, found_anchored, found_in_text}
use Rattle.fancy_regex.proofs.laws.escapes_find_their_text.Goals as goal

pub returns-clause-first : goal.returns-clause-first
returns-clause-first c = found_first c.args._regex.now c.args._text.now c.utf8._text

pub returns-clause-anchored : goal.returns-clause-anchored
returns-clause-anchored c = found_anchored c.args._regex.now c.args._text.now c.utf8._text

pub returns-clause-anchored_in_text : goal.returns-clause-anchored_in_text
returns-clause-anchored_in_text c = found_in_text c.args._regex.now c.args._text.now c.utf8._text
