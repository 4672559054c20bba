use Rattle.std.proofs.Common.{◌∙◌}
use Rattle.fancy_regex.proofs.TrialLemmas.{none_pushed}
use Rattle.fancy_regex.proofs.set.trials.Trials.take_notes.Goals as goal

pub members-preserved : goal.members-preserved
members-preserved c = record {
  others = λ k. rw c.in_ok-push.ensures.items (none_pushed c.members.self.notes.items k) ∙ c.members.invariant.others k;
  cache = c.members.invariant.cache;
}
