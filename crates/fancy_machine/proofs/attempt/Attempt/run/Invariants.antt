use Rattle.std.proofs.Common.{◌≡◌, ◌+◌, ◌≤◌}
use Rattle.fancy_input.specs.Work.{steps_of, returns_of, units_of, IsWithin}
use Rattle.fancy_machine.specs.Attempt.{KnowsSeen, accepts, code_in, outcome_from, returns_from, marks_from}
use Rattle.fancy_code.specs.Thread.{size_of}
use Rattle.fancy_machine.specs.Machine.{Searching}
use Rattle.fancy_trail.specs.Left.{left}
use Rattle.fancy_machine.proofs.attempt.Attempt.run.Given as goal

abbrev pub invariant-steps : goal.invariant-steps
invariant-steps g l = record {
  searching : Searching l.self.options.now.longest (accepts l.self) (outcome_from l.self g.deep l.fn.trail.now) (returns_of l.fn.work + returns_from l.self g.deep l.fn.trail.now)
      (marks_from l.self g.deep l.fn.trail.now) (left (code_in l.self g.deep) l.trail.now l.trail.frames) l.trail.frames l.best (returns_of l.work);
  room : returns_of l.work ≤ l.limit;
  steps : steps_of l.fn.work ≤ steps_of l.work;
  returns : returns_of l.fn.work ≤ returns_of l.work;
  units : units_of l.fn.work ≤ units_of l.work;
  paired : returns_of l.fn.work ≤ steps_of l.fn.work → returns_of l.work ≤ steps_of l.work;
  most : l.trail.most ≡ l.fn.trail.most;
  within : IsWithin l.self.options.now.step_limit l.fn.work → IsWithin l.self.options.now.step_limit l.work;
  seen : KnowsSeen l.self l.seen;
}

abbrev pub decreases-steps : goal.decreases-steps
decreases-steps g l = size_of (left (code_in l.self g.deep) l.trail.now l.trail.frames)
