-- What a search with a regex may be refused for, and how many steps it takes at most.
use Rattle.std.specs.Prelude.{ℕ, ◌≤◌}
use Rattle.std.specs.Option.{ForSome}
use Rattle.fancy_tree.specs.declared.error.Error.{Error}
use Rattle.fancy_input.specs.declared.input.Request.{Request}
use Rattle.fancy_meaning.specs.Search.{Query}
use Rattle.fancy_search.specs.SearchCounts.{IsHardProgram, TriesNothing, RefusesQuery, AllowsQuery, RefusesAttempt, AllowsAttempt, step_bound}
use Rattle.fancy_core.specs.declared.regex.Regex.{Regex}
use Rattle.fancy_core.specs.Regexes.{program_in, step_limit_in}

-- Whether a search for it is refused past limits: its pattern reads what it captured, or ends a way early, or one of the two filters is set.
abbrev pub IsHard : Regex → Type 0
IsHard r = IsHardProgram (program_in r)

-- A search with the regex tries no position: under `seek` those are passed over where no match begins, as the bytes tell.
abbrev pub TriesNone : Regex → Query → Type 0
TriesNone r q = TriesNothing (program_in r) q

-- how many steps an easy search takes at most: the length of the code for each position of the searched text, its end among them
abbrev pub most_steps_of : Regex → Request → ℕ
most_steps_of r request = step_bound (program_in r) request

-- The limit of steps, if one is set, is at least what an easy search takes at most.
abbrev pub AllowsEachStep : Regex → Request → Type 0
AllowsEachStep r request = ForSome (step_limit_in r) (λ most. most_steps_of r request ≤ most)

-- The search may be refused by this error: for want of memory at any time, and past a limit.
abbrev pub Refuses : Regex → Query → Error → Type 0
Refuses r q e = RefusesQuery (program_in r) q e

-- A search for a hard pattern that is not refused takes no more returns than its limit allows.
abbrev pub Allows : Regex → Query → Type 0
Allows r q = AllowsQuery (program_in r) q

-- The attempt at a position may be refused by this error: for want of memory at any time, and past a limit.
abbrev pub RefusesAt : Regex → Query → ℕ → Error → Type 0
RefusesAt r q p e = RefusesAttempt (program_in r) q p e

-- An attempt for a hard pattern that is not refused takes no more returns than its limit allows.
abbrev pub AllowsAt : Regex → Query → ℕ → Type 0
AllowsAt r q p = AllowsAttempt (program_in r) q p
