use Rattle.std.proofs.Common.{◌≡◌, ◌<◌, ℕ, Some, slice_get}
use Rattle.fancy_regex.specs.Captures.{spans_in}
use Rattle.fancy_regex.specs.Groups.{span_at}
use Rattle.fancy_regex_c.specs.Searches.{crossing}
use Rattle.fancy_regex_c.proofs.regexes.put_groups.Given as goal

abbrev pub invariant-loop-number : goal.invariant-loop-number
invariant-loop-number l = (k : ℕ) → k < l.number → slice_get l.groups k ≡ Some (crossing (span_at (spans_in l.captures) k))
