use Rattle.std.proofs.Common.{◌∙◌, Some, ap, inl, sym, arith}
use Rattle.std.proofs.lemmas.Option.{slice_get-get_or}
use Rattle.fancy_states.proofs.SlotLemmas.{come_in, in_filled}
use Rattle.fancy_states.proofs.slots.Slots.widen.Goals as goal

pub loop-k-init : goal.loop-k-init
loop-k-init c x is = inl (in_filled c.new-items.result.items c.resize.new.self.items _ _ c.blank.result c.new-items.ensures.items c.in_ok-resize.ensures.items x is ∙ c.blank.ensures)

pub loop-k-preserved : goal.loop-k-preserved
loop-k-preserved c =
    let slots = c.args.self.now.items.items in
    let s = c.index.result.now in
    come_in slots c.loop-k.wider.items.items c.leave.new.self.items.items _ s c.loop-k.invariant
    (c.loop-k.k, slice_get-get_or slots c.loop-k.k s (omega arith) ∙ ap Some (sym c.index.ensures)) c.leave.ensures

pub returns : goal.returns
returns c = c.loop-k.invariant
