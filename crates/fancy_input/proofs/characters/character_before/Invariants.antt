use Rattle.fancy_input.proofs.WidthLemmas.{Continued}
use Rattle.fancy_input.proofs.characters.character_before.Given as goal

abbrev pub invariant-loop-width : goal.invariant-loop-width
invariant-loop-width l = Continued l.haystack l.place l.width
