use Rattle.std.proofs.Common.{◌≡◌, length}
use Rattle.fancy_tree.specs.declared.tree.Meaning.TheVariants.{Unicode}
use Rattle.fancy_meaning.specs.Backreference.{past_characters}
use Rattle.fancy_meaning.specs.Context.{Context}
use Rattle.fancy_machine.specs.Attempt.{reading}
use Rattle.fancy_machine.proofs.texts.past_characters.Given as goal

abbrev pub invariant-loop-rest : goal.invariant-loop-rest
invariant-loop-rest l =
    (x : Context) → past_characters (reading l.haystack Unicode x) l.rest l.at
    ≡ past_characters (reading l.haystack Unicode x) l.text l.place

abbrev pub decreases-loop-rest : goal.decreases-loop-rest
decreases-loop-rest l = length l.rest
