use Rattle.std.proofs.Common.{◌≡◌, ◌≤◌, ◌<◌, ◌+◌, ◌*◌, ℕ, None, Some, length, take, drop, slice_get, slice_index_or, vec_items}
use Rattle.fancy_regex_c.specs.NextMatches.{width_by}
use Rattle.fancy_regex_c.specs.Searches.{crossing}
use Rattle.fancy_regex_c.proofs.under_way.MatchList.put.Given as goal

abbrev pub invariant-loop-number : goal.invariant-loop-number
invariant-loop-number l =
    let w = width_by l.self.has_groups l.self.regex.value in
    (l.index + 1) * w ≤ length (vec_items l.self.spans)
    → (k : ℕ) → k < l.number → slice_get l.groups k ≡ Some (slice_index_or (take w (drop (l.index * w) (vec_items l.self.spans))) k (crossing None))
