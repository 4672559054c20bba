use Rattle.std.proofs.Common.{◌≡◌, ℕ, ◌<◌, Some, slice_get}
use Rattle.std.specs.Global.{Vec}
use Rattle.fancy_bytes.specs.Sets.{ByteFlags}
use Rattle.fancy_prefilter.specs.Keys.{IsCovered}
use Rattle.fancy_prefilter.proofs.key_table.covers_all.Given as goal

abbrev pub invariant-loop-number : goal.invariant-loop-number
invariant-loop-number l =
    (k : ℕ) (row : Vec ByteFlags) → k < l.number → slice_get l.rows k ≡ Some row → IsCovered l.starts l.members k l.width row.items
