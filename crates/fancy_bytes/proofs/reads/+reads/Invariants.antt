use Rattle.std.proofs.Common.{◌≡◌, ◌<◌, ◌||◌, ℕ, map, drop}
use Rattle.fancy_tree.specs.Pattern.{pattern_of}
use Rattle.fancy_bytes.specs.Sets.{member}
use Rattle.fancy_bytes.specs.Reads.{item_starts_in}
use Rattle.fancy_bytes.proofs.reads.+reads.Given as goal

abbrev pub invariant-add_item_starts_in-loop-i : goal.invariant-add_item_starts_in-loop-i
invariant-add_item_starts_in-loop-i l =
    (b : ℕ) → b < 256 → (member l.set b || item_starts_in l.meaning (drop l.i (map pattern_of l.trees)) b)
    ≡ (member l.fn.set b || item_starts_in l.meaning (map pattern_of l.trees) b)
