use Rattle.std.proofs.Common.{ℕ, ◌+◌, ◌<◌, slice_index}
use Rattle.fancy_prefilter.specs.Keys.{RiseBetween}
use Rattle.fancy_prefilter.proofs.key_table.are_rising.Given as goal

abbrev pub invariant-loop-key : goal.invariant-loop-key
invariant-loop-key l = (k : ℕ) → k < l.key → RiseBetween l.members (slice_index l.starts k) (slice_index l.starts (k + 1))
