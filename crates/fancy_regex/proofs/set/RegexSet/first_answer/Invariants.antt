use Rattle.std.proofs.Common.{◌≡◌, ℕ, ◌≤◌, ◌<◌, false}
use Rattle.fancy_bytes.specs.Lacks.{AreKnown}
use Rattle.fancy_input.specs.Inputs.{haystack_in, request_in}
use Rattle.fancy_input.specs.Requests.{effective_start}
use Rattle.fancy_regex.specs.SetMembers.{any_answer_at}
use Rattle.fancy_regex.specs.Sets.{asked_of_set}
use Rattle.fancy_regex.specs.SetCounts.{IsPaired, TakesSteps, most_steps_of_all, steps_left_in}
use Rattle.fancy_regex.specs.SetLimits.{CountNoUnits, HeedLimits, KeepsWork}
use Rattle.fancy_regex.specs.Trials.{AreNotedFrom}
use Rattle.fancy_regex.proofs.set.RegexSet.first_answer.Given as goal

abbrev pub invariant-loop-position : goal.invariant-loop-position
invariant-loop-position g l = record {
  known : AreKnown l.trials.cache.known (g.S.Haystack.bytes (haystack_in l.input));
  noted : AreNotedFrom 0 (asked_of_set l.self g.S.Haystack.bytes l.input) l.position l.trials;
  taken : TakesSteps (asked_of_set l.self g.S.Haystack.bytes l.input) l.fn.trials l.trials
      (most_steps_of_all l.self.members.items (request_in l.input))
      (steps_left_in (asked_of_set l.self g.S.Haystack.bytes l.input) 0 l.position l.trials);
  paired : IsPaired l.fn.trials → IsPaired l.trials;
  limit : HeedLimits l.self.members.items l.fn.trials l.trials;
  grows : KeepsWork l.fn.trials l.trials;
  units : CountNoUnits l.self.members.items l.fn.trials l.trials;
  passed : (j : ℕ) → effective_start (request_in l.input) ≤ j → j < l.position → any_answer_at (asked_of_set l.self g.S.Haystack.bytes l.input) j ≡ false;
}
