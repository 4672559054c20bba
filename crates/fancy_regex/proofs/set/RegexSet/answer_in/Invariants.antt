use Rattle.std.proofs.Common.{◌≤◌, ◌-◌, length}
use Rattle.fancy_bytes.specs.Lacks.{AreKnown}
use Rattle.fancy_input.specs.Inputs.{haystack_in}
use Rattle.fancy_regex.specs.SetMembers.{NoneBetween}
use Rattle.fancy_regex.specs.Sets.{asked_of_set}
use Rattle.fancy_regex.specs.SetCounts.{IsPaired, TakesSteps, steps_left_in}
use Rattle.fancy_regex.specs.SetLimits.{CountNoUnits, HeedLimits, KeepsWork}
use Rattle.fancy_regex.specs.Trials.{AreNotedFrom}
use Rattle.fancy_regex.proofs.set.RegexSet.answer_in.Given as goal

abbrev pub invariant-members : goal.invariant-members
invariant-members g l = record {
  known : AreKnown l.trials.cache.known (g.S.Haystack.bytes (haystack_in l.input));
  noted : AreNotedFrom l.fn.from (asked_of_set l.self g.S.Haystack.bytes l.input) l.position l.trials;
  taken : TakesSteps (asked_of_set l.self g.S.Haystack.bytes l.input) l.fn.trials l.trials
      (steps_left_in (asked_of_set l.self g.S.Haystack.bytes l.input) l.fn.from l.position l.fn.trials)
      (steps_left_in (asked_of_set l.self g.S.Haystack.bytes l.input) l.from l.position l.trials);
  paired : IsPaired l.fn.trials → IsPaired l.trials;
  limit : HeedLimits l.self.members.items l.fn.trials l.trials;
  grows : KeepsWork l.fn.trials l.trials;
  units : CountNoUnits l.self.members.items l.fn.trials l.trials;
  reached : l.fn.from ≤ l.from;
  none : NoneBetween (asked_of_set l.self g.S.Haystack.bytes l.input) l.position l.fn.from l.from;
}

abbrev pub decreases-members : goal.decreases-members
decreases-members g l = length l.self.members.items - l.from
