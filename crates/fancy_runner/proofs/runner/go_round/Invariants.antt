use Rattle.std.proofs.Common.{◌≡◌, ◌-◌}
use Rattle.fancy_runner.specs.Runs.{WentOn}
use Rattle.fancy_runner.proofs.runner.go_round.Given as goal

abbrev pub invariant-items : goal.invariant-items
invariant-items l = record {
  at : l.pair.at ≡ l.fn.start.at;
  went : WentOn l.fn.attempt l.fn.start l.pair l.fn.table l.table l.fn.work l.work;
}

abbrev pub decreases-items : goal.decreases-items
decreases-items l = l.attempt.last - l.pair.place
