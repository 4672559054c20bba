use Rattle.std.proofs.Common.{◌≡◌, map, take}
use Rattle.fancy_syntax.specs.References.{group_for}
use Rattle.fancy_syntax.specs.Views.{targets_of, groups_of, AreResolved}
use Rattle.fancy_syntax.proofs.resolve.Groups.resolve_all.Given as goal

abbrev pub invariant-loop-target : goal.invariant-loop-target
invariant-loop-target l = record {
  numbers : l.numbers.items ≡ map (group_for (groups_of l.self)) (targets_of (take l.target-index l.targets));
  resolved : AreResolved (groups_of l.self) (take l.target-index l.targets);
}
