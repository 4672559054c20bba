use Rattle.std.proofs.Common.{◌≡◌, ◌<◌, ◌||◌, ℕ, drop}
use Rattle.fancy_bytes.specs.Items.{includes}
use Rattle.fancy_bytes.specs.Sets.{member}
use Rattle.fancy_bytes.proofs.required.add_all.Given as goal

abbrev pub invariant-loop-i : goal.invariant-loop-i
invariant-loop-i l = (b : ℕ) → b < 256 → (member l.set b || includes (drop l.i l.bytes) b) ≡ (member l.fn.set b || includes l.bytes b)
