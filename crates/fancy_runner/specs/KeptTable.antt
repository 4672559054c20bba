-- What is kept from one search to the next: of the same code in the same haystack, up to the same end.
use Rattle.std.specs.Prelude.{◌≡◌, ℕ, ◌+◌, ◌-◌, ◌*◌, ◌^◌, ◌<◌, ◌≤◌, Bool, List, Option, Some, None, length, nat_lt, if◌then◌else◌}
use Rattle.fancy_tree.specs.Pattern.{Pattern}
use Rattle.fancy_input.specs.LastLines.{KnowsLastLines}
use Rattle.fancy_input.specs.Requests.{effective_start, positions}
use Rattle.fancy_input.specs.declared.input.Request.{Request}
use Rattle.fancy_code.specs.declared.code.Code.{Code}
use Rattle.fancy_code.specs.declared.found.Found.{Found}
use Rattle.fancy_runner.specs.declared.notes.KeptTable.{KeptTable}
use Rattle.fancy_runner.specs.declared.notes.Notes.{Notes}
use Rattle.fancy_meaning.specs.declared.options.SearchOptions.{SearchOptions}
use Rattle.fancy_runner.specs.declared.notes.Cache.{Cache}
use Rattle.fancy_code.specs.Marking.{Marks}
use Rattle.fancy_code.specs.Code.{instrs_of, width_of, due_of, worth_of, marks_of, owed_of}
use Rattle.fancy_code.specs.CodeLength.{code_len}
use Rattle.fancy_meaning.specs.Reading.{search_context, suppressed_ends}
use Rattle.fancy_meaning.specs.Search.{is_match_boundary}
use Rattle.fancy_runner.specs.Runner.{AllFailed}
use Rattle.fancy_code.specs.Compile.{IsCodeOf, depth}

-- the marks that a search left
abbrev pub table_in : Cache → List Bool
table_in cache = cache.notes.table

-- the pairs that were marked, in a table whose first place is `base`
abbrev pub marks_from : Code → ℕ → List Bool → Marks
marks_from code base table q i = marks_of code table q (i - base)

-- where the table of a search that starts at `first` begins: where the one begins that is kept, or else there
abbrev pub base_of : Option KeptTable → ℕ → ℕ
base_of None first = first
base_of (Some kept) first = kept.base

-- the same where the search starts at the effective start
abbrev pub table_base : Option KeptTable → Request → ℕ
table_base kept request = base_of kept (effective_start request)

-- The table begins at its base and goes up to the range's end. No pair that is marked where it says or later gives an accepted outcome,
-- whatever the groups. So a search that starts at `place` or later need not follow these again, but perhaps those at `place` itself. Of
-- the request its end and the ends that it suppresses are heeded, which are the same for all searches. `\G`, which easy code does not
-- read, is taken to hold at the base. What was read of the line ends that close the haystack is true of it, so a later search need not
-- read them again.
pub record IsKept (code : Code) (haystack : List ℕ) (request : Request) (options : SearchOptions) (kept : KeptTable) (place : ℕ) (notes : Notes) : Type 0 where
  pub begins : kept.base ≤ place
  pub reached : kept.from ≤ place + 1
  pub room : length notes.table ≡ (request.range_end - kept.base + 1) * width_of code
  pub small : length notes.table < 2 ^ 64
  pub failed : (p : Pattern) → IsCodeOf p code
      → AllFailed (is_match_boundary options.on_boundaries haystack) (search_context haystack code.meaning (suppressed_ends options.overrides request) kept.base)
      kept.from request.range_end (instrs_of code) (depth (length haystack) p + 1) (marks_from code kept.base notes.table)
  pub last_lines : KnowsLastLines haystack notes.last_lines

-- From this place on what a search leaves is kept: from the end of its match, or where it found nothing from the last position that it
-- tried.
abbrev pub place_kept : Option Found → Request → ℕ
place_kept (Some f) request = f.end
place_kept None request = effective_start request + (positions request - 1)

-- past all positions that the search tries
abbrev pub past_tried : Request → ℕ
past_tried request = effective_start request + positions request

-- so many steps are ahead of the searches from `place` on that keep the table: what its marks are worth that were not made, and a
-- start at each position
abbrev pub steps_ahead : Code → Request → ℕ → ℕ → List Bool → ℕ
steps_ahead code request base place table = owed_of code (request.range_end - base + 1) table + (request.range_end + 1 - place) * due_of code code.start

-- the same of those that may keep a table; where none is kept, one step for each pair of an instruction and a place that is searched
abbrev pub steps_from : Option KeptTable → Code → Request → ℕ → List Bool → ℕ
steps_from None code request place table = code_len code * (request.range_end + 1 - place)
steps_from (Some kept) code request place table = steps_ahead code request kept.base place table

-- so many steps may be taken again, by a search that clears the marks at the place `first` where it starts: what these are worth where the
-- match before ended there, and else none
abbrev pub taken_again : Option KeptTable → Code → ℕ → ℕ
taken_again None code first = 0
taken_again (Some kept) code first = if nat_lt first kept.from then worth_of code else 0
