use Rattle.std.proofs.Common.{◌+◌, ◌-◌, ◌<◌, ◌≤◌, length}
use Rattle.fancy_code.specs.Instructions.{edges_in}
use Rattle.fancy_machine.specs.Atoms.{AreMembers}
use Rattle.fancy_machine.specs.Attempt.{attempt_context}
use Rattle.fancy_machine.proofs.atoms.members_from.Given as goal

abbrev pub invariant-items : goal.invariant-items
invariant-items l =
    AreMembers (attempt_context l.attempt) (edges_in l.set) l.items.count l.from l.items.past
    × (l.from + l.items.count ≤ l.items.past)
    × (0 < l.items.count → (l.items.past ≤ l.limit) × (l.items.past ≤ length l.attempt.haystack.now))

abbrev pub decreases-items : goal.decreases-items
decreases-items l = l.limit - l.items.past
