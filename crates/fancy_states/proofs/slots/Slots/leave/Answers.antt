use Rattle.std.proofs.Common.{◌∙◌, Some, ap, arith, bit_or, sym}
use Rattle.std.proofs.lemmas.Option.{slice_get-get_or}
use Rattle.fancy_states.proofs.SlotLemmas.{slot_left}
use Rattle.fancy_states.proofs.slots.Slots.leave.Goals as goal

pub returns-then-second-len : goal.returns-then-second-len
returns-then-second-len c x is =
    let slots = c.args.self.now.items.items in
    let first = c.place-first.result in
    let moved = c.index.result.now in
    slot_left slots first (bit_or first 1) c.args.slot moved x
    (first, slice_get-get_or slots first moved (omega (arith, c.if-first-len.true, c.len.ensures)) ∙ ap Some (sym c.index.ensures)) is
