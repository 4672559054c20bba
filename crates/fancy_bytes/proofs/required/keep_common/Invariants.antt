use Rattle.std.proofs.Common.{◌≡◌, ◌<◌, ◌&&◌, ◌-◌, ℕ}
use Rattle.fancy_bytes.specs.Items.{is_in_each}
use Rattle.fancy_bytes.specs.Sets.{member}
use Rattle.fancy_bytes.proofs.required.keep_common.Given as goal

abbrev pub invariant-loop-code : goal.invariant-loop-code
invariant-loop-code l =
    (b : ℕ) → b < 256 → (member l.set b && is_in_each l.meaning (l.to - l.code) l.code b)
    ≡ (member l.fn.set b && is_in_each l.meaning (l.to - l.from) l.from b)
