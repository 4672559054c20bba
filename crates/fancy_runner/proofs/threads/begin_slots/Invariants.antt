use Rattle.std.proofs.Common.{◌≡◌, replicate}
use Rattle.fancy_code.specs.Thread.{empty_slot}
use Rattle.fancy_runner.proofs.threads.begin_slots.Given as goal

abbrev pub invariant-slots : goal.invariant-slots
invariant-slots l = l.slots.items ≡ replicate l.counter empty_slot
