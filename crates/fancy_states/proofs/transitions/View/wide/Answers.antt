use Rattle.std.proofs.Common.{◌∙◌, List, subst}
use Rattle.fancy_alphabet.specs.declared.sight.Sight.{Sight}
use Rattle.fancy_states.specs.Slots.{IsIn}
use Rattle.fancy_states.specs.Transitions.{IsEntry}
use Rattle.fancy_states.specs.declared.slots.Slot.{Slot}
use Rattle.fancy_states.proofs.SlotLemmas.{slot_reads}
use Rattle.fancy_states.proofs.TransitionLemmas.{told_slot}
use Rattle.fancy_states.proofs.transitions.View.wide.Goals as goal

pub returns-then-has : goal.returns-then-has
returns-then-has c cells table row before view told low start =
    let slot = c.in_ok-slot.slot.now in
    let parts = c.in_ok-slot.ensures in
    let has = c.has.ensures c.if-has.true in
    let there = subst (λ (ss : List Slot). IsIn ss slot) view.slots parts.2 in
    subst (λ (s : Sight). IsEntry table.classes cells row s slot.entry) (slot_reads slot before c.args.after c.args.reading parts.1 has.1 has.2)
    (told_slot cells table slot told there has.0 row before low (parts.0 ∙ start))
