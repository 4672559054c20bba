-- How many steps the search of a set takes: at most as many as searches with each of its members alone.
use Rattle.std.specs.Prelude.{◌≡◌, ◌≤◌, ◌+◌, ◌-◌, ◌*◌, ℕ, true, All, List, Option, Some, None, sum_by, min, length, slice_get}
use Rattle.fancy_input.specs.declared.input.Request.{Request}
use Rattle.fancy_meaning.specs.Context.{option_to}
use Rattle.fancy_code.specs.Marking.{sum_to}
use Rattle.fancy_input.specs.Work.{steps_of, returns_of}
use Rattle.fancy_core.specs.declared.regex.Regex.{Regex}
use Rattle.fancy_core.specs.Limited.{most_steps_of}
use Rattle.fancy_core.specs.Regexes.{easy_in, length_in, program_in}
use Rattle.fancy_search.specs.declared.cache.AttemptNotes.{AttemptNotes}
use Rattle.fancy_search.specs.KeptTables.{notes_ahead, notes_again}
use Rattle.fancy_regex.specs.SetMembers.{SetQuery}
use Rattle.fancy_regex.specs.Trials.{notes_at}
use Rattle.fancy_regex.specs.declared.set.trials.Trials.{Trials}

-- the pattern of each member is easy under its options
abbrev pub AreAllEasy : List Regex → Type 0
AreAllEasy members = All (λ r. easy_in r ≡ true) members

-- as many steps as a search with each member alone takes at most, added up
abbrev pub most_steps_of_all : List Regex → Request → ℕ
most_steps_of_all members request = sum_by (λ r. most_steps_of r request) members

-- So many steps attempts of the member at `place` and later may take, by what it found out so far: what is ahead of them, and what one at
-- `place` may take again. Where it was not tried yet, that is one step for each pair of an instruction and a place.
abbrev pub steps_left : Regex → Request → ℕ → Option AttemptNotes → ℕ
steps_left member request place None = length_in member * (request.range_end + 1 - place)
steps_left member request place (Some notes) = notes_ahead (program_in member) request place notes + notes_again (program_in member) place notes

-- where the member with index k is tried next, while a position is tried: those below `next` were tried there, and come to the one after
abbrev pub next_place : ℕ → ℕ → ℕ → ℕ
next_place next position k = position + min 1 (next - k)

-- so many steps it may take then
abbrev pub steps_left_of : SetQuery → ℕ → ℕ → Trials → ℕ → ℕ
steps_left_of q next position trials k = option_to (slice_get q.members k) 0 (λ member. steps_left member q.request (next_place next position k) (notes_at trials k))

-- so many all members may take together
abbrev pub steps_left_in : SetQuery → ℕ → ℕ → Trials → ℕ
steps_left_in q next position trials = sum_to (steps_left_of q next position trials) (length q.members)

-- the steps that were counted
abbrev pub steps_in : Trials → ℕ
steps_in trials = steps_of trials.cache.work

-- Where all members are easy, so many steps were left before, and of these so many are after those that were taken.
abbrev pub TakesSteps : SetQuery → Trials → Trials → ℕ → ℕ → Type 0
TakesSteps q old new before after = AreAllEasy q.members → steps_in new + after ≤ steps_in old + before

-- no more returns were counted than steps
abbrev pub IsPaired : Trials → Type 0
IsPaired trials = returns_of trials.cache.work ≤ steps_of trials.cache.work
