use Rattle.std.proofs.Common.{◌≡◌, ◌&&◌, ℕ, nat_lt}
use Rattle.fancy_bytes.specs.Items.{includes}
use Rattle.fancy_bytes.specs.Sets.{member}
use Rattle.fancy_bytes.proofs.lacking.members_of.Given as goal

abbrev pub invariant-loop-code : goal.invariant-loop-code
invariant-loop-code l = (b : ℕ) → includes l.bytes.items b ≡ (nat_lt b l.code && member l.set b)
