-- The matches that a request has as a list goes on.
use Rattle.std.proofs.Common.{◌≡◌, ◌<◌, ℕ, Bool, List, []}
use Rattle.fancy_input.specs.declared.input.Request.{Request}
use Rattle.fancy_search.specs.declared.searcher.Onward.{Onward}
use Rattle.fancy_search.proofs.ScanLemmas.{none_left_past}
use Rattle.fancy_core.specs.declared.regex.Regex.{Regex}
use Rattle.fancy_core.specs.Regexes.{program_in}
use Rattle.fancy_core.specs.Searches.{matches_onward, standing_onward}

-- from a start past the end of the range there are none
pub none_onward_past : (regex : Regex) (text : Bool) (haystack : List ℕ) (r : Request) (o : Onward) → r.range_end < r.start → matches_onward regex text haystack r o ≡ []
none_onward_past regex text haystack r o past = none_left_past (program_in regex) text haystack r (standing_onward r.start o) past
