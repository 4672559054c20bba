use Rattle.fancy_states.specs.Slots.{ComeFrom, blank}
use Rattle.fancy_states.proofs.slots.Slots.widen.Given as goal

abbrev pub invariant-loop-k : goal.invariant-loop-k
invariant-loop-k l = ComeFrom l.fn.self.items.items blank l.wider.items.items
