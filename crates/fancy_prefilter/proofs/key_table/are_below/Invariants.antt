use Rattle.std.proofs.Common.{ℕ, ◌<◌, slice_index}
use Rattle.fancy_prefilter.proofs.key_table.are_below.Given as goal

abbrev pub invariant-loop-member : goal.invariant-loop-member
invariant-loop-member l = (i : ℕ) → i < l.member-index → slice_index l.members i < l.count
