use Rattle.std.proofs.Common.{◌≡◌, ◌<◌, ◌||◌, ◌&&◌, ℕ, nat_lt}
use Rattle.fancy_tree.specs.Sets.{has}
use Rattle.fancy_tree.specs.SetViews.{Cut}
use Rattle.fancy_bytes.specs.Sets.{member}
use Rattle.fancy_bytes.proofs.edges.add_ascii.Given as goal

abbrev pub invariant-loop-byte : goal.invariant-loop-byte
invariant-loop-byte l = record {
  cut : Cut l.edges l.next l.byte;
  added : (b : ℕ) → b < 256 → member l.set b ≡ (member l.fn.set b || (nat_lt b l.byte && has l.edges b));
}
