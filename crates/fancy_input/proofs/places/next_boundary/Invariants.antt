use Rattle.std.proofs.Common.{length, ◌-◌, ◌≡◌, ◌≤◌, ◌<◌, ◌+◌, drop}
use Rattle.fancy_input.specs.Places.{continuations}
use Rattle.fancy_input.proofs.places.next_boundary.Given as goal

abbrev pub invariant-loop-at : goal.invariant-loop-at
invariant-loop-at l = record {
  above : l.i < l.at;
  most : l.at ≤ length l.bytes + 1;
  within : l.i < length l.bytes → l.at ≤ length l.bytes;
  value : l.at + continuations (drop l.at l.bytes) ≡ l.i + 1 + continuations (drop (l.i + 1) l.bytes);
}

abbrev pub decreases-loop-at : goal.decreases-loop-at
decreases-loop-at l = length l.bytes - l.at
