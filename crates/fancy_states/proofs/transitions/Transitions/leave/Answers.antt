use Rattle.std.proofs.Common.{◌≡◌, ap, subst, sym}
use Rattle.fancy_alphabet.specs.declared.classes.Classes.{Classes}
use Rattle.fancy_states.specs.Slots.{blank}
use Rattle.fancy_states.specs.Transitions.{AreTold, IsSlot}
use Rattle.fancy_states.specs.declared.transitions.Transitions.{Transitions}
use Rattle.fancy_states.proofs.TransitionLemmas.{blank_slot, told_with}
use Rattle.fancy_states.proofs.transitions.Transitions.leave.Goals as goal
use Rattle.fancy_states.proofs.transitions.Transitions.leave.Goals.{then-is_small+in_ok-widen, else-is_small}

pub returns-in_err-widen-clause-told : goal.returns-in_err-widen-clause-told
returns-in_err-widen-clause-told c cells told entry =
    let table = c.args.self.now in
    told_with cells table c.widen.new.self blank c.in_err-widen.ensures (blank_slot table.classes cells) told

pub returns-clause-told : goal.returns-clause-told
returns-clause-told c cells told entry =
    let table = c.args.self.now in
    let slot = c.in-Some.slot in
    let wide : AreTold cells c.if-is_small.self × (c.if-is_small.self.classes ≡ table.classes) =
    elim c.if-is_small.branch [
      | then-is_small+in_ok-widen w ↦ (
        subst (AreTold cells) (sym w.self-is) (told_with cells table w.widen.new.self blank w.in_ok-widen.ensures (blank_slot table.classes cells) told),
        ap (λ (t : Transitions). t.classes) w.self-is,
      )
      | else-is_small w ↦ (subst (AreTold cells) (sym w.self-is) told, ap (λ (t : Transitions). t.classes) w.self-is)
    ] in
    told_with cells c.if-is_small.self c.leave.new.self slot c.leave.ensures
    (subst (λ (k : Classes). IsSlot k cells slot) (sym wide.1) (c.in-Some.ensures cells entry)) wide.0
