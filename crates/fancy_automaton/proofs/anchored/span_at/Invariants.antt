use Rattle.std.proofs.Common.{◌+◌, ◌-◌, ◌*◌, ◌≤◌}
use Rattle.fancy_code.specs.CodeLength.{code_len}
use Rattle.fancy_states.specs.Cells.{HoldsFor}
use Rattle.fancy_states.specs.Counts.{AddsSteps}
use Rattle.fancy_automaton.specs.Decided.{IsDecided, Rests, attempt_goal}
use Rattle.fancy_automaton.proofs.anchored.span_at.Given as goal

abbrev pub invariant-places : goal.invariant-places
invariant-places l = record {
  rests : Rests l.attempt l.cells l.at;
  kept : HoldsFor l.cells l.attempt.code.now;
  passed : l.attempt.base ≤ l.at.stand.place;
  within : l.at.stand.place ≤ l.attempt.last + 1;
  counts : AddsSteps (code_len l.attempt.code.now * (l.at.stand.place - l.attempt.base)) l.fn.work l.work;
  decided : IsDecided l.attempt l.cells (attempt_goal l.attempt) l.at;
}

abbrev pub decreases-places : goal.decreases-places
decreases-places l = l.attempt.last + 1 - l.at.stand.place
