use Rattle.std.proofs.Common.{◌≡◌, ℕ, take}
use Rattle.unicode.specs.Rows.{in_ranges}
use Rattle.fancy_tree.specs.Widening.{in_pairs}
use Rattle.fancy_tree.specs.Members.{members}
use Rattle.fancy_tree.proofs.set.Set.with_pairs.Given as goal

abbrev pub invariant-loop-pair : goal.invariant-loop-pair
invariant-loop-pair l = (c : ℕ) → in_ranges l.others.items c ≡ in_pairs (take l.pair-index l.pairs) (members l.self) c
