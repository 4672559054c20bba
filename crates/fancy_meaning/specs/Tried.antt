-- Which positions a search tries, where it passes over those at which the first bytes tell that no match begins.
use Rattle.std.specs.Prelude.{◌≡◌, ◌≤◌, ℕ, Bool, false, not, ◌&&◌, ◌||◌, nat_lt, slice_index}
use Rattle.fancy_bytes.specs.Firsts.{first_bytes, has_start_bytes}
use Rattle.fancy_input.specs.Requests.{effective_start}
use Rattle.fancy_meaning.specs.Search.{Query}

-- one of the bytes that each match starts at stands at p, within the range, or a match may start at any
abbrev pub may_begin : Query → ℕ → Bool
may_begin q p =
    not (has_start_bytes q.sought.pattern)
    || (nat_lt p q.request.range_end && first_bytes q.sought.meaning q.sought.pattern (slice_index q.haystack p))

-- the positions that a search tries: where it seeks, those at which a match may begin, and else all
abbrev pub tried : Bool → Query → ℕ → Bool
tried seek q p = not seek || may_begin q p

-- no position of the search is tried
abbrev pub NoneTried : Bool → Query → Type 0
NoneTried seek q = (p : ℕ) → effective_start q.request ≤ p → p ≤ q.request.range_end → tried seek q p ≡ false
