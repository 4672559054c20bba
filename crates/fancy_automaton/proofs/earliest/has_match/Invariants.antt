use Rattle.std.proofs.Common.{◌+◌, ◌-◌, ◌*◌, ◌≤◌}
use Rattle.fancy_code.specs.CodeLength.{code_len}
use Rattle.fancy_states.specs.Counts.{AddsSteps}
use Rattle.fancy_automaton.specs.Sole.{IsAmid}
use Rattle.fancy_automaton.proofs.earliest.has_match.Given as goal

abbrev pub invariant-places : goal.invariant-places
invariant-places l = record {
  amid : IsAmid l.attempt l.cells l.at;
  passed : l.attempt.base ≤ l.at.place;
  counts : AddsSteps (code_len l.attempt.code.now * (l.at.place - l.attempt.base)) l.fn.work l.work;
}

abbrev pub decreases-places : goal.decreases-places
decreases-places l = l.attempt.last + 1 - l.at.place
