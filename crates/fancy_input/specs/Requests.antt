-- Where a request has a haystack searched.
use Rattle.std.specs.Prelude.{ℕ, ◌+◌, ◌-◌, max, min, List, length, true, false, if◌then◌else◌}
use Rattle.fancy_input.specs.declared.input.Request.{Request}

-- the whole haystack, from its start, with nothing suppressed
abbrev pub whole : List ℕ → Request
whole haystack = record { start = 0; range_start = 0; range_end = length haystack; anchored = false; start_text = true; end_text = true; continues = true }

-- the first position that is tried
abbrev pub effective_start : Request → ℕ
effective_start r = max r.start r.range_start

-- how many positions are tried, from the effective start on: those up to the range's end, and that one too; the first of them alone where the request is anchored
abbrev pub positions : Request → ℕ
positions r = if r.anchored then min 1 (r.range_end + 1 - effective_start r) else (r.range_end + 1 - effective_start r)
