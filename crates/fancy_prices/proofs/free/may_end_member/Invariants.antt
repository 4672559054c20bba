use Rattle.std.proofs.Common.{◌≡◌, ◌<◌, ℕ, true, Some}
use Rattle.fancy_tree.specs.Sets.{has}
use Rattle.fancy_code.specs.Instructions.{edges_in}
use Rattle.fancy_prices.specs.Facts.{IsOfKind}
use Rattle.fancy_prices.proofs.free.may_end_member.Given as goal

abbrev pub invariant-loop-byte : goal.invariant-loop-byte
invariant-loop-byte l = (b : ℕ) → b < 128 → b < l.byte → has (edges_in l.set) b ≡ true → IsOfKind l.kind (Some b) → ⊥
