use Rattle.std.proofs.Common.{◌≡◌, ◌<◌, ℕ, true}
use Rattle.fancy_tree.specs.Sets.{has}
use Rattle.fancy_bytes.specs.Sets.{member}
use Rattle.fancy_tree.specs.Members.{edges_of}
use Rattle.fancy_bytes.proofs.items.bytes_of.Given as goal

abbrev pub invariant-loop-byte : goal.invariant-loop-byte
invariant-loop-byte l = (b : ℕ) → b < l.byte → has (edges_of l.set.set) b ≡ true → member l.bytes b ≡ true
