-- What a search may be refused for, and what it counts.
use Rattle.std.specs.Prelude.{◌≡◌, ℕ, ◌+◌, ◌-◌, ◌*◌, ◌<◌, ◌≤◌, Bool, not, ◌&&◌, Result, Option, Err, IfOk, IfSome, true, false, is_some, if◌then◌else◌}
use Rattle.fancy_bytes.specs.Lacks.{lacks_some}
use Rattle.fancy_bytes.specs.Required.{required_bytes}
use Rattle.fancy_tree.specs.declared.error.Error.{Error}
use Rattle.fancy_tree.specs.declared.error.Error.TheVariants.{Memory, ParseError, CompileError, RuntimeError}
use Rattle.fancy_tree.specs.declared.error.RuntimeError.{RuntimeError as Running}
use Rattle.fancy_tree.specs.declared.error.RuntimeError.TheVariants.{BacktrackLimitExceeded, StackOverflow, StepLimitExceeded, Unmatched}
use Rattle.fancy_input.specs.declared.input.Request.{Request}
use Rattle.fancy_input.specs.Requests.{effective_start}
use Rattle.fancy_input.specs.declared.work.Work.{Work}
use Rattle.fancy_input.specs.Work.{steps_of, returns_of, HasRoom, HasWorkFor, IsSpent, IsWithin}
use Rattle.fancy_meaning.specs.Tried.{tried}
use Rattle.fancy_meaning.specs.Search.{Query, returns, choices, returns_at, choices_at}
use Rattle.fancy_search.specs.declared.program.Program.{Program}
use Rattle.fancy_search.specs.Programs.{program_options, program_is_easy, program_length, program_limit, program_stack_limit, program_step_limit}

-- Whether a search for it is refused past limits: its pattern reads what it captured, or ends a way early, or one of the two filters is set.
abbrev pub IsHardProgram : Program → Type 0
IsHardProgram r = program_is_easy r ≡ false

-- a byte that the pattern requires stands nowhere in the haystack
abbrev pub lacks_required : Query → Bool
lacks_required q = lacks_some (required_bytes q.sought.meaning q.sought.pattern) q.haystack

-- the search is for a pattern that seeks, and the haystack lacks a byte that the pattern requires
abbrev pub is_hopeless : Program → Query → Bool
is_hopeless r q = (program_options r).seek && lacks_required q

-- The positions that a search with the program tries. Under `seek` they are those where a match may begin, as the first bytes tell, and none where the haystack lacks a required byte; else all.
abbrev pub tried_by : Program → Query → ℕ → Bool
tried_by r q p = not (is_hopeless r q) && tried (program_options r).seek q p

-- no position of the search is tried
unfoldable pub TriesNothing : Program → Query → Type 0
TriesNothing r q = (p : ℕ) → effective_start q.request ≤ p → p ≤ q.request.range_end → tried_by r q p ≡ false

-- how many returns the search takes
abbrev pub returns_taken : Program → Query → ℕ
returns_taken r q = returns q (tried_by r q)

-- how many choices it opens
abbrev pub choices_in : Program → Query → ℕ
choices_in r q = choices q (tried_by r q)

-- a limit of steps is set
abbrev pub HasStepLimit : Program → Type 0
HasStepLimit r = is_some (program_step_limit r) ≡ true

-- The search may be given up for this: a hard one past its limits of returns and of branches, and each where a limit of steps is set.
abbrev pub IsGivenUp : Running → Program → Query → Type 0
IsGivenUp BacktrackLimitExceeded r q = IsHardProgram r × (program_limit r < returns_taken r q)
IsGivenUp StackOverflow r q = IsHardProgram r × (program_stack_limit r < choices_in r q)
IsGivenUp StepLimitExceeded r q = HasStepLimit r
IsGivenUp (Unmatched place) r q = ⊥

-- how many steps an easy search takes at most: the length of the code for each position of the searched text, its end among them
abbrev pub step_bound : Program → Request → ℕ
step_bound r request = program_length r * (request.range_end + 1 - effective_start request)

-- The counts have room for what a search adds to them: counts that were just begun have it for every search.
abbrev pub HasRoomFor : Program → Request → Work → Type 0
HasRoomFor r request w =
    HasRoom (steps_of w) (step_bound r request)
    × HasRoom (returns_of w) (program_limit r)
    × (returns_of w ≤ steps_of w)

-- The search may be refused by this error: for want of memory at any time, and past a limit.
abbrev pub RefusesQuery : Program → Query → Error → Type 0
RefusesQuery r q Memory = Unit {0}
RefusesQuery r q (ParseError at kind) = ⊥
RefusesQuery r q (CompileError why) = ⊥
RefusesQuery r q (RuntimeError why) = IsGivenUp why r q

-- a search for an easy pattern may be refused by this error: for want of memory, and where a limit of steps is set
abbrev pub RefusesEasy : Program → Error → Type 0
RefusesEasy r Memory = Unit {0}
RefusesEasy r (ParseError at kind) = ⊥
RefusesEasy r (CompileError why) = ⊥
RefusesEasy r (RuntimeError BacktrackLimitExceeded) = ⊥
RefusesEasy r (RuntimeError StackOverflow) = ⊥
RefusesEasy r (RuntimeError StepLimitExceeded) = HasStepLimit r
RefusesEasy r (RuntimeError (Unmatched place)) = ⊥

-- A search for a hard pattern that is not refused takes no more returns than its limit allows.
abbrev pub AllowsQuery : Program → Query → Type 0
AllowsQuery r q = IsHardProgram r → returns_taken r q ≤ program_limit r

-- how many returns an attempt at p takes: none where the program does not try that position
abbrev pub returns_taken_at : Program → Query → ℕ → ℕ
returns_taken_at r q p = if tried_by r q p then returns_at q p else 0

-- how many choices it opens
abbrev pub choices_opened_at : Program → Query → ℕ → ℕ
choices_opened_at r q p = if tried_by r q p then choices_at q p else 0

-- The attempt at a position may be given up for this.
abbrev pub IsGivenUpAt : Running → Program → Query → ℕ → Type 0
IsGivenUpAt BacktrackLimitExceeded r q p = IsHardProgram r × (program_limit r < returns_taken_at r q p)
IsGivenUpAt StackOverflow r q p = IsHardProgram r × (program_stack_limit r < choices_opened_at r q p)
IsGivenUpAt StepLimitExceeded r q p = HasStepLimit r
IsGivenUpAt (Unmatched place) r q p = ⊥

-- The attempt at a position may be refused by this error: for want of memory at any time, and past a limit.
abbrev pub RefusesAttempt : Program → Query → ℕ → Error → Type 0
RefusesAttempt r q p Memory = Unit {0}
RefusesAttempt r q p (ParseError at kind) = ⊥
RefusesAttempt r q p (CompileError why) = ⊥
RefusesAttempt r q p (RuntimeError why) = IsGivenUpAt why r q p

-- An attempt for a hard pattern that is not refused takes no more returns than its limit allows.
abbrev pub AllowsAttempt : Program → Query → ℕ → Type 0
AllowsAttempt r q p = IsHardProgram r → returns_taken_at r q p ≤ program_limit r

-- a search was refused because it would return more often than its limit allows
abbrev pub IsStopped : {A : Type 0} → Result A Error → Type 0
IsStopped result = result ≡ Err (RuntimeError BacktrackLimitExceeded)

-- a search was refused because it would do more work than its limit allows
abbrev pub IsOutOfSteps : {A : Type 0} → Result A Error → Type 0
IsOutOfSteps result = result ≡ Err (RuntimeError StepLimitExceeded)

-- no search does more work than the program's limit allows, with what was done before
abbrev pub HeedsStepLimit : Program → Work → Work → Type 0
HeedsStepLimit r before after = IsWithin (program_step_limit r) before → IsWithin (program_step_limit r) after

-- all work is done that the program's limit allows
abbrev pub HasNoStepsLeft : Program → Work → Type 0
HasNoStepsLeft r w = IsSpent (program_step_limit r) w

-- the program's limit allows all steps that an easy search takes at most
abbrev pub AllowsAllSteps : Program → Request → Work → Type 0
AllowsAllSteps r request w = HasWorkFor (program_step_limit r) (step_bound r request) w

-- the count of returns is that of the search
abbrev pub HasReturns : Program → Work → Query → Type 0
HasReturns r w q = returns_of w ≡ returns_taken r q

-- the count of returns rose by this number
abbrev pub AddsReturns : Work → ℕ → Work → Type 0
AddsReturns before n after = returns_of after ≡ returns_of before + n

-- the count of returns rose by this number at most
abbrev pub AddsReturnsUpTo : Work → ℕ → Work → Type 0
AddsReturnsUpTo before n after = returns_of after ≤ returns_of before + n

-- P of what a search found, if it found anything
abbrev pub IfFound : {A : Type 0} → Result (Option A) Error → (A → Type 0) → Type 0
IfFound result P = IfOk result (λ found. IfSome found P)
