use Rattle.std.proofs.Common.{◌≡◌, ◌<◌, ◌≤◌}
use Rattle.fancy_input.specs.Work.{steps_of, returns_of, units_of}
use Rattle.fancy_states.proofs.cells.count_up.Given as goal

abbrev pub invariant-loop-step : goal.invariant-loop-step
invariant-loop-step l = record {
  counted : steps_of l.work ≡ l.step;
  within : steps_of l.fn.work < l.step → l.step ≤ l.wanted;
  returns : returns_of l.work ≡ returns_of l.fn.work;
  units : units_of l.work ≡ units_of l.fn.work;
}
