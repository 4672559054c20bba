use Rattle.std.proofs.Common.{ℕ, ◌≤◌, ◌-◌, length}
use Rattle.fancy_bytes.specs.Lacks.{AreKnown}
use Rattle.fancy_input.specs.Inputs.{haystack_in}
use Rattle.fancy_input.specs.Work.{work_of}
use Rattle.fancy_regex.specs.LongestMatches.{IsLongestIfAny}
use Rattle.fancy_regex.specs.SetLimits.{ShareLimit}
use Rattle.fancy_regex.specs.Sets.{asked_of_set}
use Rattle.fancy_regex.specs.Trials.{AreNotedBelow, AreNotedFrom}
use Rattle.fancy_regex.specs.Tokens.{KeepLimits}
use Rattle.fancy_regex.proofs.set.RegexSet.token_at.Given as goal

abbrev pub invariant-members : goal.invariant-members
invariant-members g l = record {
  limit : (most : ℕ) → ShareLimit most l.self.members.items → work_of l.trials.cache.work ≤ most;
  known : AreKnown l.trials.cache.known (g.S.Haystack.bytes (haystack_in l.input));
  below : AreNotedBelow l.from (asked_of_set l.self g.S.Haystack.bytes l.input) l.end l.trials;
  above : AreNotedFrom l.from (asked_of_set l.self g.S.Haystack.bytes l.input) l.place l.trials;
  inside : l.from ≤ length l.self.members.items;
  longest : IsLongestIfAny (asked_of_set l.self g.S.Haystack.bytes l.input) (haystack_in l.input) l.place l.from l.end l.longest;
  limits : KeepLimits (asked_of_set l.self g.S.Haystack.bytes l.input) l.place l.from;
}

abbrev pub decreases-members : goal.decreases-members
decreases-members g l = length l.self.members.items - l.from
