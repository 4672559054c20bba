-- Where the groups stand in the match that the search before found.
use Rattle.std.specs.Prelude.{List, map, Option}
use Rattle.fancy_input.specs.declared.span.Span.{Span}
use Rattle.fancy_runner.specs.declared.notes.Cache.{Cache}
use Rattle.fancy_code.specs.Thread.{slot_span}

-- where the groups stand in the match that the search before found
abbrev pub groups_in : Cache → List (Option Span)
groups_in cache = map slot_span cache.threads.slots
