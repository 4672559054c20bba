-- What searches work in, and what it holds of the last match, by whichever engine.
use Rattle.std.specs.Prelude.{◌≡◌, ℕ, Bool, true, false, List, [], Option, None, IsTrue, option_map, replicate}
use Rattle.fancy_input.specs.Places.{is_boundary}
use Rattle.fancy_input.specs.Spans.{from_to}
use Rattle.fancy_input.specs.declared.span.Span.{Span}
use Rattle.fancy_meaning.specs.Search.{Query, Answer, search, attempt, span_of}
use Rattle.fancy_code.specs.declared.found.Found.{Found}
use Rattle.fancy_runner.specs.Groups.{groups_in}
use Rattle.fancy_code.specs.Queries.{answer_with}
use Rattle.fancy_states.specs.Search.{groups_of}
use Rattle.fancy_machine.specs.Asked.{groups_held}
use Rattle.fancy_search.specs.declared.cache.Engine.{Engine}
use Rattle.fancy_search.specs.declared.cache.Engine.TheVariants.{Runner, Machine, WithoutGroups, Unasked}
use Rattle.fancy_search.specs.declared.cache.Cache.{Cache}

-- Of the groups that the engines hold those of the engine that served. Where the code ends none, no group takes part. Where they were
-- not asked, these others.
abbrev pub groups_by : Engine → List (Option Span) → List (Option Span) → List (Option Span) → List (Option Span)
groups_by Runner runner machine others = runner
groups_by Machine runner machine others = machine
groups_by (WithoutGroups groups) runner machine others = replicate groups None
groups_by Unasked runner machine others = others

-- whether the groups of what was found are held
abbrev pub holds_groups : Engine → Bool
holds_groups Runner = true
holds_groups Machine = true
holds_groups (WithoutGroups groups) = true
holds_groups Unasked = false

-- where the groups stand in the match that the search before found; none where they were not asked
abbrev pub cached_groups : Cache → List (Option Span)
cached_groups c = groups_by c.served (groups_in c.runner) (groups_held c.machine) []

-- the same, or where they were not asked, these
abbrev pub groups_or : Cache → List (Option Span) → List (Option Span)
groups_or c others = groups_by c.served (groups_in c.runner) (groups_held c.machine) others

-- what the search before found, with these groups
abbrev pub found_with : Found → List (Option Span) → Answer
found_with f groups = record { position = f.position; state = record { place = f.end; captures = groups; kept = f.start } }

-- what the search before found, with its groups
abbrev pub found_at : Found → Cache → Answer
found_at f c = found_with f (cached_groups c)

-- from where to where it goes
abbrev pub found_span : Found → Span
found_span f = from_to f.start f.end

-- What was found, with its groups, is the answer of the search. Where they were not asked, they are those of the answer.
abbrev pub IsAnswerIn : Option Found → Cache → Query → Type 0
IsAnswerIn found c q = answer_with (groups_or c (groups_of 0 (search q))) found ≡ search q

-- what was found, with its groups, is the answer of the attempt at the position
abbrev pub IsAttemptIn : Option Found → Cache → Query → ℕ → Type 0
IsAttemptIn found c q p = answer_with (cached_groups c) found ≡ attempt q p

-- what was found starts and ends on boundaries of characters
abbrev pub IsCleanlyFound : List ℕ → Found → Type 0
IsCleanlyFound haystack f = IsTrue (is_boundary haystack f.start) × IsTrue (is_boundary haystack f.end)

-- what was found, without its groups, is the answer of the search
abbrev pub IsFoundBy : Option Found → Query → Type 0
IsFoundBy found q = option_map found_span found ≡ option_map span_of (search q)
