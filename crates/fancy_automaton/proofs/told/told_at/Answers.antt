use Rattle.std.proofs.Common.{◌∙◌, List, ap, arith, get_or, sym, ℕ}
use Rattle.std.specs.Prelude.{slice_get}
use Rattle.std.proofs.lemmas.Option.{slice_get-get_or}
use Rattle.fancy_alphabet.proofs.NumberLemmas.{seen_low}
use Rattle.fancy_alphabet.specs.Classes.{sight_for}
use Rattle.fancy_alphabet.specs.Sides.{seen_as}
use Rattle.fancy_automaton.proofs.HopLemmas.{sees_ascii}
use Rattle.fancy_automaton.proofs.told.told_at.Goals as goal

pub returns-in_ok-step-in-Some-clause-told : goal.returns-in_ok-step-in-Some-clause-told
returns-in_ok-step-in-Some-clause-told c cells row view followed holds good start =
    let a = c.args.attempt.now in
    let p = c.args.place in
    let classes = cells.table.classes in
    let byte = get_or a.haystack.now p 0 in
    let column = c.in-Some.column in
    let side = seen_as classes.tests start.0 in
    let seen = sym c.in-Some.ensures in (
      sight_for classes side byte,
      sees_ascii a classes p byte column start.0 followed holds.all.1 start.1 c.requires.before
          (slice_get-get_or a.haystack.now p 0 (omega (arith, c.requires.before, c.requires.inside)))
          (ap (λ (cs : List ℕ). slice_get cs byte) (sym view.columns) ∙ seen) good,
      c.in_ok-step-in-Some.ensures cells.cells.items cells.table row side byte view holds.bounded.told (seen_low classes.tests start.0) start.2 seen,
    )
