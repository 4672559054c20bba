use Rattle.std.proofs.Common.{◌≤◌, ◌-◌}
use Rattle.fancy_regex.specs.Candidates.{NoStarterBetween}
use Rattle.fancy_regex.proofs.set.RegexSet.next_in_groups.Given as goal

abbrev pub invariant-candidates : goal.invariant-candidates
invariant-candidates l = record {
  reached : l.fn.from ≤ l.from;
  none : NoStarterBetween l.self.members.items l.searched l.position l.fn.from l.from;
}

abbrev pub decreases-candidates : goal.decreases-candidates
decreases-candidates l = l.count - l.from
