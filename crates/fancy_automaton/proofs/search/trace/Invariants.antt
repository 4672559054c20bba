use Rattle.std.proofs.Common.{◌+◌, ◌-◌, ◌*◌, ◌≤◌}
use Rattle.fancy_code.specs.CodeLength.{code_len}
use Rattle.fancy_states.specs.Counts.{AddsSteps}
use Rattle.fancy_automaton.specs.Front.{IsFront}
use Rattle.fancy_automaton.proofs.search.trace.Given as goal

abbrev pub invariant-places : goal.invariant-places
invariant-places l = record {
  front : IsFront l.attempt l.cells l.front l.place l.place;
  passed : l.fn.from.stand.place ≤ l.place;
  within : l.place ≤ l.attempt.last + 1;
  counts : AddsSteps (code_len l.attempt.code.now * (l.place - l.fn.from.stand.place)) l.fn.work l.work;
}

abbrev pub decreases-places : goal.decreases-places
decreases-places l = l.attempt.last + 1 - l.place
