use Rattle.std.proofs.Common.{◌≡◌, ◌≤◌}
use Rattle.fancy_regex.specs.SetMatches.{question_of, position_of, next_member, members_to_come}
use Rattle.fancy_regex_c.specs.Handed.{handed_bytes}
use Rattle.fancy_regex_c.proofs.MemberLemmas.{Gives}
use Rattle.fancy_regex_c.proofs.sets.put_members.Given as goal

abbrev pub invariant-loop-found : goal.invariant-loop-found
invariant-loop-found l = record {
  asked : question_of handed_bytes l.found-iterator ≡ question_of handed_bytes l.fn.matches;
  position : position_of l.found-iterator ≡ position_of l.fn.matches;
  reached : l.wanted ≤ next_member l.found-iterator;
  gives : Gives (question_of handed_bytes l.fn.matches) (position_of l.fn.matches) (members_to_come handed_bytes l.fn.matches) (members_to_come handed_bytes l.found-iterator) l.fn.members l.members l.wanted;
}
