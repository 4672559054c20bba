use Rattle.std.proofs.Common.{arith, ap, sym, Option}
use Rattle.fancy_meaning.specs.declared.reading.Reading.{Reading}
use Rattle.fancy_states.proofs.TransitionLemmas.{slot_is}
use Rattle.fancy_states.proofs.transitions.slot_of.Goals as goal

pub returns-in-Some : goal.returns-in-Some
returns-in-Some c cells entry =
    let sight = c.args.sight in
    slot_is c.args.classes.now cells c.args.row sight
    (record { start = c.start-start.result; code = c.in-Some.reading.code; width = c.in-Some.reading.width; after = sight.after; entry = c.args.entry })
    (omega arith) (omega arith) c.start-start.ensures
    (ap (λ (r : Option Reading). record { before = sight.before; after = sight.after; reading = r }) (sym c.in-Some.is)) entry
