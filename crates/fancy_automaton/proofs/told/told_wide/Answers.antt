use Rattle.std.proofs.Common.{◌+◌, Some, arith, get_or, refl, subst}
use Rattle.std.proofs.lemmas.Option.{slice_get-get_or}
use Rattle.fancy_code.specs.Attempt.{context_in}
use Rattle.fancy_alphabet.proofs.NumberLemmas.{seen_low}
use Rattle.fancy_alphabet.specs.Sides.{IsAfterAs, seen_as}
use Rattle.fancy_alphabet.specs.declared.side.Tests.{Tests}
use Rattle.fancy_automaton.proofs.ToldLemmas.{sees_wide}
use Rattle.fancy_automaton.proofs.told.told_wide.Goals as goal

pub returns-clause-told : goal.returns-clause-told
returns-clause-told c cells row view followed holds good start =
    let a = c.args.attempt.now in
    let p = c.args.place in
    let classes = cells.table.classes in
    let r = c.in_ok-reading.reading in
    let side = seen_as classes.tests start.0 in
    let next = subst (λ (t : Tests). IsAfterAs (context_in a) p t c.after.result) view.tests c.after.ensures in (
      record { before = side; after = c.after.result; reading = Some r },
      sees_wide a classes p start.0 c.after.result r (get_or a.haystack.now p 0) (p + r.width) followed holds.all.1 start.1 next c.requires.before
          (slice_get-get_or a.haystack.now p 0 (omega (arith, c.requires.before, c.requires.inside))) c.if-attempt-place-lt128.false c.in_ok-reading.ensures.reading refl
          c.if-past-attempt.false good,
      c.in_ok-step.ensures cells.cells.items cells.table row side view holds.bounded.told (seen_low classes.tests start.0) start.2,
    )
