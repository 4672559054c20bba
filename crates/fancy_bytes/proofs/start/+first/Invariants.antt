use Rattle.std.proofs.Common.{◌≡◌, ◌<◌, ◌||◌, ℕ, map, drop}
use Rattle.fancy_tree.specs.Pattern.{pattern_of}
use Rattle.fancy_bytes.specs.Sets.{member}
use Rattle.fancy_bytes.specs.Lists.{first_in_row, first_in_some}
use Rattle.fancy_bytes.proofs.start.+first.Given as goal

abbrev pub invariant-add_first_in_row-loop-i : goal.invariant-add_first_in_row-loop-i
invariant-add_first_in_row-loop-i l =
    (b : ℕ) → b < 256 → (member l.set b || first_in_row l.meaning (drop l.i (map pattern_of l.trees)) b)
    ≡ (member l.fn.set b || first_in_row l.meaning (map pattern_of l.trees) b)

abbrev pub invariant-add_first_in_some-loop-i : goal.invariant-add_first_in_some-loop-i
invariant-add_first_in_some-loop-i l =
    (b : ℕ) → b < 256 → (member l.set b || first_in_some l.meaning (drop l.i (map pattern_of l.trees)) b)
    ≡ (member l.fn.set b || first_in_some l.meaning (map pattern_of l.trees) b)
