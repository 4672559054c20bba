use Rattle.std.proofs.Common.{◌∙◌, Bool, Some, None, sym, ap}
use Rattle.std.specs.Prelude.{if◌then◌else◌}
use Rattle.std.proofs.lemmas.Bool.{le-leb, lt-leb}
use Rattle.fancy_meaning.specs.Reading.{unit_read}
use Rattle.fancy_alphabet.specs.Units.{cut}
use Rattle.fancy_alphabet.proofs.SightLemmas.{unit_is}
use Rattle.fancy_alphabet.proofs.sight.reading_at.Goals as goal

pub returns-in-None-clause-reading : goal.returns-in-None-clause-reading
returns-in-None-clause-reading c = ap (cut c.args.attempt.now.last c.args.place) (c.in-None.ensures.reading ∙ sym (unit_is c.args.attempt.now c.args.place))

pub returns-then-place-reading-clause-reading : goal.returns-then-place-reading-clause-reading
returns-then-place-reading-clause-reading c =
    sym (ap (cut c.args.attempt.now.last c.args.place) (unit_is c.args.attempt.now c.args.place ∙ sym c.in-Some.ensures.reading)
    ∙ ap (λ (b : Bool). if b then Some (unit_read c.in-Some.reading) else None) (le-leb _ _ c.if-place-reading.true))

pub returns-else-place-reading-clause-reading : goal.returns-else-place-reading-clause-reading
returns-else-place-reading-clause-reading c =
    sym (ap (cut c.args.attempt.now.last c.args.place) (unit_is c.args.attempt.now c.args.place ∙ sym c.in-Some.ensures.reading)
    ∙ ap (λ (b : Bool). if b then Some (unit_read c.in-Some.reading) else None) (lt-leb _ _ c.if-place-reading.false))
