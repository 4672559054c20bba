-- What a search is asked, and what it answers.
use Rattle.std.specs.Prelude.{ℕ, ◌+◌, ◌-◌, ◌*◌, Bool, false, List, Option, Some, None}
use Rattle.fancy_tree.specs.Pattern.{Pattern}
use Rattle.fancy_input.specs.Requests.{effective_start}
use Rattle.fancy_input.specs.declared.input.Request.{Request}
use Rattle.fancy_input.specs.declared.span.Span.{Span}
use Rattle.fancy_code.specs.declared.code.Code.{Code}
use Rattle.fancy_code.specs.CodeLength.{code_len}
use Rattle.fancy_code.specs.declared.found.Found.{Found}
use Rattle.fancy_meaning.specs.declared.options.SearchOptions.{SearchOptions}
use Rattle.fancy_meaning.specs.Search.{Sought, Query, Answer}

-- the pattern, with what its code says of it, under these options
abbrev pub sought_of : Pattern → Code → SearchOptions → Sought
sought_of p code options = record {
  pattern = p;
  meaning = code.meaning;
  groups = code.groups;
  on_boundaries = options.on_boundaries;
  overrides = options.overrides;
  not_empty = options.not_empty;
  longest = options.longest;
}

-- what is asked, with `\G` on or off
abbrev pub query_of : Pattern → Code → SearchOptions → List ℕ → Request → Bool → Query
query_of p code options haystack request on =
    record { sought = sought_of p code options; haystack = haystack; request = request; continues = on }

-- the same options where the first match is asked for, and it may be empty
abbrev pub unfiltered : SearchOptions → SearchOptions
unfiltered options = record options { not_empty = false; longest = false }

-- one step for each pair of an instruction and a place that is searched
abbrev pub most_steps : Code → Request → ℕ
most_steps code request = code_len code * (request.range_end + 1 - effective_start request)

-- what was found, with the spans of its groups, as the definition answers
abbrev pub answer_with : List (Option Span) → Option Found → Option Answer
answer_with groups None = None
answer_with groups (Some found) =
    Some (record { position = found.position; state = record { place = found.end; captures = groups; kept = found.start } })
