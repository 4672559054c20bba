use Rattle.std.proofs.Common.{◌≡◌}
use Rattle.std.specs.Prelude.{vec_len}
use Rattle.fancy_regex.specs.Trials.{HoldStepsOf}
use Rattle.fancy_regex.proofs.set.trials.Trials.leave.Given as goal

abbrev pub invariant-members : goal.invariant-members
invariant-members l = record {
  holds : HoldStepsOf l.members l.self;
  cache : l.self.cache ≡ l.fn.self.cache;
}

abbrev pub decreases-members : goal.decreases-members
decreases-members l = vec_len l.self.notes
