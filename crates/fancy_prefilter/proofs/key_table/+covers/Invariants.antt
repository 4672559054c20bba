use Rattle.std.proofs.Common.{◌≡◌, ℕ, ◌<◌, length, drop, true}
use Rattle.fancy_bytes.specs.Sets.{member}
use Rattle.fancy_prefilter.specs.Keys.{Covers, class_of, mixed}
use Rattle.fancy_prefilter.proofs.key_table.+covers.Given as goal

abbrev pub decreases-covers : goal.decreases-covers
decreases-covers l = length l.sets.now

abbrev pub invariant-loop-class : goal.invariant-loop-class
invariant-loop-class l =
    (byte : ℕ) → byte < 256 → class_of byte < l.class → member l.set byte ≡ true → Covers l.starts l.members l.number (mixed l.seed byte) (drop 1 l.sets)
