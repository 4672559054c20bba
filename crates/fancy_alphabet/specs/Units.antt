-- What is read at a place, up to a limit.
use Rattle.std.specs.Prelude.{ℕ, ◌+◌, Option, None, Some, nat_le, if◌then◌else◌}
use Rattle.fancy_meaning.specs.Context.{Context, Unit_at, unit_at}

-- the unit, where it ends by the limit
abbrev pub cut : ℕ → ℕ → Option Unit_at → Option Unit_at
cut limit here None = None
cut limit here (Some u) = if nat_le (here + u.width) limit then Some u else None

-- the unit that is read at a place
abbrev pub unit_by : Context → ℕ → ℕ → Option Unit_at
unit_by x limit here = cut limit here (unit_at x here)

-- the place after it
abbrev pub place_after : ℕ → Option Unit_at → ℕ
place_after here None = here + 1
place_after here (Some u) = here + u.width
