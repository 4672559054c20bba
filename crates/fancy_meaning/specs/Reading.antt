-- What the engines read in a haystack.
use Rattle.std.specs.Prelude.{ℕ, Bool, not, ◌&&◌, List, Some}
use Rattle.fancy_tree.specs.declared.tree.Meaning.{Meaning}
use Rattle.fancy_input.specs.declared.input.Request.{Request}
use Rattle.fancy_meaning.specs.declared.reading.Reading.{Reading}
use Rattle.fancy_meaning.specs.declared.reading.SuppressedEnds.{SuppressedEnds}
use Rattle.fancy_meaning.specs.Context.{Context, Unit_at}

abbrev pub unit_read : Reading → Unit_at
unit_read r = record { code = r.code; width = r.width }

-- the ends of the text that the request suppresses, where it may
abbrev pub suppressed_ends : Bool → Request → SuppressedEnds
suppressed_ends overrides request = record { start = overrides && not request.start_text; end = overrides && not request.end_text }

-- the context of a search that begins at `from`
abbrev pub search_context : List ℕ → Meaning → SuppressedEnds → ℕ → Context
search_context haystack meaning suppressed from = record {
  haystack = haystack;
  meaning = meaning;
  continues_at = Some from;
  start_text_off = suppressed.start;
  end_text_off = suppressed.end;
}
