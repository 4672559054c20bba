use Rattle.std.proofs.Common.{◌≡◌, ◌*◌, ◌≤◌}
use Rattle.fancy_machine.specs.Front.{returns_over}
use Rattle.fancy_machine.proofs.front.returns_over.Given as goal

abbrev pub invariant-items : goal.invariant-items
invariant-items l = record { told : l.returns ≡ returns_over l.fn.before l.more; few : l.returns ≤ l.more * 2147483648 }
