use Rattle.std.proofs.Common.{◌≤◌}
use Rattle.fancy_automaton.proofs.worth.is_wide.Given as goal

abbrev pub invariant-loop-character : goal.invariant-loop-character
invariant-loop-character l = l.members ≤ l.character
