use Rattle.std.proofs.Common.{◌+◌, ◌-◌, ◌<◌, ◌≤◌, ℕ}
use Rattle.fancy_states.specs.Search.{Passes}
use Rattle.fancy_automaton.proofs.follow.next_opened.Given as goal

abbrev pub invariant-places : goal.invariant-places
invariant-places l = record {
  forth : l.from ≤ l.place;
  ends : l.place ≤ l.attempt.last + 1;
  passed : (k : ℕ) → l.from ≤ k → k < l.place → Passes l.attempt k;
}

abbrev pub decreases-places : goal.decreases-places
decreases-places l = l.attempt.last + 1 - l.place
