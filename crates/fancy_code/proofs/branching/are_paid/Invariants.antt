use Rattle.std.proofs.Common.{◌+◌, ◌≤◌, drop}
use Rattle.fancy_code.specs.Branches.{dues_in}
use Rattle.fancy_code.proofs.branching.are_paid.Given as goal

abbrev pub invariant-loop-number : goal.invariant-loop-number
invariant-loop-number l =
    dues_in l.code.marking.numbers.items l.code.marking.weights.items l.heads
    ≤ l.total + dues_in l.code.marking.numbers.items l.code.marking.weights.items (drop l.number l.heads)
