use Rattle.std.proofs.Common.{◌*◌, ◌+◌}
use Rattle.fancy_tree.specs.Members.{edges_of}
use Rattle.fancy_tree.specs.Sets.{has}
use Rattle.fancy_bytes.specs.Rows.{Wider}
use Rattle.fancy_code.specs.Code.{instrs_of}
use Rattle.fancy_code.specs.Foretold.{ForetoldPast}
use Rattle.fancy_code.proofs.prefilter.+collect.Given as goal

abbrev pub decreases-collect : goal.decreases-collect
decreases-collect l = l.spot.deep * 4

abbrev pub decreases-collect_instruction : goal.decreases-collect_instruction
decreases-collect_instruction l = l.spot.deep * 4 + 3

abbrev pub decreases-collect_sizes : goal.decreases-collect_sizes
decreases-collect_sizes l = l.spot.deep * 4 + 1

abbrev pub decreases-collect_members : goal.decreases-collect_members
decreases-collect_members l = l.spot.deep * 4 + 2

abbrev pub decreases-collect_character : goal.decreases-collect_character
decreases-collect_character l = l.spot.deep * 4 + 1

abbrev pub invariant-collect_members-loop-size : goal.invariant-collect_members-loop-size
invariant-collect_members-loop-size l = record {
  wider : Wider l.fn.sets.items l.sets.items;
  told : ForetoldPast (instrs_of l.code) l.code.meaning l.sets.items l.spot.from l.spot.exact (has (edges_of l.set.set)) 1 l.size l.spot.at;
}
