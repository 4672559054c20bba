use Rattle.std.proofs.Common.{ℕ, ◌<◌, ◌≤◌, slice_index}
use Rattle.fancy_prefilter.proofs.key_table.do_rise.Given as goal

abbrev pub invariant-loop-i : goal.invariant-loop-i
invariant-loop-i l = (a b : ℕ) → l.from ≤ a → a < b → b < l.i → slice_index l.members a < slice_index l.members b
