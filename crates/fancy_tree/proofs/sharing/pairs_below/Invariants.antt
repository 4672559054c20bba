use Rattle.std.proofs.Common.{◌-◌, ℕ, ◌<◌, ◌≤◌, length, slice_index_or}
use Rattle.fancy_tree.proofs.sharing.pairs_below.Given as goal

abbrev pub invariant-loop-low : goal.invariant-loop-low
invariant-loop-low l = record {
  ends : l.low ≤ l.high;
  inside : l.high ≤ length l.pairs;
  before : (k : ℕ) → k < l.low → (slice_index_or l.pairs k (0, 0)).0 < l.c;
  after : (k : ℕ) → l.high ≤ k → k < length l.pairs → l.c ≤ (slice_index_or l.pairs k (0, 0)).0;
}

abbrev pub decreases-loop-low : goal.decreases-loop-low
decreases-loop-low l = l.high - l.low
