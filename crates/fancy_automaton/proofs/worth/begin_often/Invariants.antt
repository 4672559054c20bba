use Rattle.std.proofs.Common.{◌≤◌}
use Rattle.fancy_automaton.proofs.worth.begin_often.Given as goal

abbrev pub invariant-loop : goal.invariant-loop
invariant-loop l = l.place ≤ l.seen
