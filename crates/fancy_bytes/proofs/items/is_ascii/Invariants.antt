use Rattle.std.proofs.Common.{◌<◌, ◌≤◌, ℕ, slice_index}
use Rattle.fancy_bytes.proofs.items.is_ascii.Given as goal

abbrev pub invariant-loop-edge : goal.invariant-loop-edge
invariant-loop-edge l = (k : ℕ) → k < l.edge-index → slice_index l.edges k ≤ 128
