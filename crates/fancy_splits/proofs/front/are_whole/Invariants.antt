use Rattle.std.proofs.Common.{◌≡◌, ◌<◌, ℕ, true, false}
use Rattle.fancy_input.specs.Places.{is_continuation}
use Rattle.fancy_bytes.specs.Sets.{member}
use Rattle.fancy_splits.proofs.front.are_whole.Given as goal

abbrev pub invariant-loop-byte : goal.invariant-loop-byte
invariant-loop-byte l = (b : ℕ) → b < l.byte → member l.split.items b ≡ true → is_continuation b ≡ false
