use Rattle.std.proofs.Common.{◌∙◌, sym}
use Rattle.fancy_search.specs.declared.straight.StraightEnd.TheVariants.{Loop}
use Rattle.fancy_search.proofs.StraightLemmas.{no_loop, same_end}
use Rattle.fancy_search.proofs.program.Program.is_read.Goals as goal
use Rattle.fancy_search.proofs.program.Program.is_read.Goals.{then-is_match, else-is_match}

pub returns-then-keeps_places-clause-places : goal.returns-then-keeps_places-clause-places
returns-then-keeps_places-clause-places c none item round =
    elim c.if-is_match.branch [
      | then-is_match w ↦ absurd (no_loop item (sym (c.is_match.ensures w.if-is_match.true) ∙ same_end _ c.in-Some.straight (Loop item) c.in-Some.is round))
      | else-is_match w ↦ w.keeps_places.ensures (sym w.value-is ∙ c.if-keeps_places.true) c.args.asked.now.haystack.now c.args.asked.now.utf8
    ]
