use Rattle.std.proofs.Common.{◌≡◌, ◌<◌, ◌||◌, ◌&&◌, ℕ, map, drop}
use Rattle.fancy_tree.specs.Pattern.{pattern_of}
use Rattle.fancy_bytes.specs.Sets.{member}
use Rattle.fancy_bytes.specs.Lists.{required_in_some, required_in_all, required_in_choice}
use Rattle.fancy_bytes.proofs.required.+required.Given as goal

abbrev pub invariant-required_in_row-loop-i : goal.invariant-required_in_row-loop-i
invariant-required_in_row-loop-i l =
    (b : ℕ) → b < 256 → (member l.set b || required_in_some l.meaning (drop l.i (map pattern_of l.trees)) b)
    ≡ required_in_some l.meaning (map pattern_of l.trees) b

abbrev pub invariant-required_in_each-loop-i : goal.invariant-required_in_each-loop-i
invariant-required_in_each-loop-i l =
    (b : ℕ) → b < 256 → (member l.set b && required_in_all l.meaning (drop l.i (map pattern_of l.trees)) b)
    ≡ required_in_choice l.meaning (map pattern_of l.trees) b
