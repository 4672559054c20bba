use Rattle.std.proofs.Common.{◌-◌, ◌≡◌}
use Rattle.fancy_bytes.specs.Iterations.{members_left}
use Rattle.fancy_bytes.proofs.members.MembersIterator.next.Given as goal

abbrev pub invariant-loop-self : goal.invariant-loop-self
invariant-loop-self l = members_left l.self ≡ members_left l.fn.self

abbrev pub decreases-loop-self : goal.decreases-loop-self
decreases-loop-self l = 256 - l.self.next
