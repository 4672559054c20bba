-- Where the ways of a search began.
use Rattle.std.specs.Prelude.{ℕ, List, [], Option, None, Some, map, slice_get, slice_index}
use Rattle.fancy_input.specs.declared.span.Span.{Span}
use Rattle.fancy_states.specs.declared.cells.Cell.{Cell}

abbrev pub came_of : Option Cell → List ℕ
came_of None = []
came_of (Some c) = c.came.items

-- of each way after a step, the number of the way that it comes from
abbrev pub came_at : List Cell → ℕ → List ℕ
came_at cells k = came_of (slice_get cells k)

-- where the ways began that come from those with these numbers
abbrev pub starts_from : List ℕ → List ℕ → List ℕ
starts_from starts came = map (λ f. slice_index starts f) came

-- what was found after a step at a place, from ways that began there
abbrev pub found_after : Option Span → List ℕ → Option ℕ → ℕ → Option Span
found_after found starts None place = found
found_after found starts (Some f) place = Some (record { start = slice_index starts f; end = place })

-- a match from a place on, if it ends
abbrev pub match_from : ℕ → Option ℕ → Option Span
match_from start None = None
match_from start (Some end) = Some (record { start = start; end = end })
