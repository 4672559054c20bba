use Rattle.std.proofs.Common.{arith, ◌<◌, ◌∙◌, sym, true≢false}
use Rattle.std.proofs.lemmas.Bool.Decides.{nat_tests}
use Rattle.std.proofs.lemmas.Str.{length-encode, len_utf8_bounds}
use Rattle.fancy_bytes.proofs.items.has_character.Goals as goal

pub returns-in-None : goal.returns-in-None
returns-in-None c e d is item enough few =
    absurd (true≢false (sym is ∙ (rw c.edges.ensures at c.in-None.ensures) d (c.first_with.ensures.from d (omega (arith, enough, length-encode d)))))

pub returns-in-Some : goal.returns-in-Some
returns-in-Some c e d is item enough few =
    let below : d < c.first_with-in-Some.result =
    c.first_with-in-Some.ensures.before d item (omega (arith, few, length-encode d, (len_utf8_bounds d).1, c.saturating_add.ensures)) in
    let before : d < c.in-Some.c = grind (arith, nat_tests) in
    absurd (true≢false (sym is ∙ (rw c.edges.ensures at c.in-Some.ensures.1) d (c.first_with.ensures.from d (omega (arith, enough, length-encode d))) before))
