use Rattle.std.proofs.Common.{◌-◌, ◌+◌, ◌≤◌, ℕ, length, vec_capacity}
use Rattle.fancy_tree.specs.Members.{applied}
use Rattle.fancy_tree.proofs.EdgesLemmas.{Merged}
use Rattle.fancy_tree.proofs.set.Set.combine.Given as goal

abbrev pub invariant-loop-at : goal.invariant-loop-at
invariant-loop-at l = record {
  merged : (low : ℕ) × Merged (applied l.how) l.a l.b l.edges.items l.i l.j low;
  room : length l.edges.items + ((length l.a - l.i) + (length l.b - l.j)) ≤ vec_capacity l.edges;
}

abbrev pub decreases-loop-at : goal.decreases-loop-at
decreases-loop-at l = (length l.a - l.i) + (length l.b - l.j)
