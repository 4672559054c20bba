use Rattle.std.proofs.Common.{◌≡◌, ◌+◌, ◌<◌, ℕ, true, slice_index}
use Rattle.fancy_bytes.specs.Sets.{member}
use Rattle.fancy_bytes.specs.Rows.{set_at}
use Rattle.fancy_prefilter.proofs.window.Window.stands_at.Given as goal

abbrev pub invariant-loop-j : goal.invariant-loop-j
invariant-loop-j l = (i : ℕ) → i < l.j → member (set_at l.self i) (slice_index l.haystack (l.place + i)) ≡ true
