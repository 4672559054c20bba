use Rattle.fancy_search.specs.StepsOf.{AreStepsOf}
use Rattle.fancy_search.proofs.program.Program.steps_for.Goals as goal
use Rattle.fancy_search.proofs.program.Program.steps_for.Goals.{in-Some, in-None+in_ok-steps-in-None}

pub returns : goal.returns
returns c =
    let holds = elim c.match-take.branch as (λ _. AreStepsOf c.args.self.now.code c.match-take.steps.value) [
      | in-Some w ↦ rw w.steps-is ((c.args.self.now.pooled w.in-Some.left.value).0 w.in-Some.ensures)
      | in-None+in_ok-steps-in-None w ↦ rw w.steps-is (w.in_ok-steps-in-None.ensures c.args.self.now.code)
    ] in c.go_on.ensures c.args.self.now.code (rw c.deref_mut.ensures.value holds)
