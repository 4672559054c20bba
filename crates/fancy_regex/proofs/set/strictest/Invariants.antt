use Rattle.std.proofs.Common.{ℕ, ◌<◌, slice_index_or}
use Rattle.fancy_core.specs.declared.regex.Regex.{Regex}
use Rattle.fancy_regex.specs.Strictest.{KeepsCharacters}
use Rattle.fancy_regex.proofs.set.strictest.Given as goal

abbrev pub invariant-loop-index : goal.invariant-loop-index
invariant-loop-index l = (k : ℕ) (d : Regex) → k < l.index → KeepsCharacters (slice_index_or l.members k d)
