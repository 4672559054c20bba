use Rattle.fancy_regex.specs.Candidates.{HoldOnly}
use Rattle.fancy_regex.proofs.CandidateLemmas.{HoldFirst}
use Rattle.fancy_regex.proofs.set.candidates.Groups.of_starters.Given as goal

abbrev pub invariant-loop-index : goal.invariant-loop-index
invariant-loop-index l = record {
  all : HoldFirst l.width l.members l.next l.index l.groups;
  only : HoldOnly l.width l.members l.next l.groups;
}
