-- What searches and attempts answer, and what they add to the counts.
use Rattle.std.specs.Prelude.{◌≡◌, ◌≤◌, ℕ, Bool, List, Result, Option, None, true, length, IfOk, IfErr}
use Rattle.fancy_tree.specs.declared.error.Error.{Error}
use Rattle.fancy_input.specs.declared.input.Request.{Request}
use Rattle.fancy_input.specs.Requests.{effective_start}
use Rattle.fancy_code.specs.Code.{instrs_of}
use Rattle.fancy_code.specs.declared.found.Found.{Found}
use Rattle.fancy_input.specs.declared.work.Work.{Work}
use Rattle.fancy_input.specs.Work.{steps_of, returns_of}
use Rattle.fancy_meaning.specs.Search.{Query}
use Rattle.fancy_meaning.specs.Tried.{NoneTried}
use Rattle.fancy_machine.specs.Asked.{HeedsLimit}
use Rattle.fancy_search.specs.declared.asked.Asked.{Asked}
use Rattle.fancy_search.specs.declared.cache.Cache.{Cache}
use Rattle.fancy_search.specs.declared.program.Program.{Program}
use Rattle.fancy_states.specs.Futures.{ArePlain}
use Rattle.fancy_states.specs.Search.{KeepsPlaces}
use Rattle.fancy_search.specs.Options.{search_options}
use Rattle.fancy_search.specs.Programs.{KeepsCharacters, program_is_easy, program_options, program_limit, program_stack_limit, query_in}
use Rattle.fancy_search.specs.Cached.{IsAnswerIn, IsCleanlyFound, IsFoundBy, holds_groups}
use Rattle.fancy_search.specs.SearchCounts.{IsHardProgram, TriesNothing, RefusesQuery, RefusesEasy, AllowsQuery, IsStopped, IsOutOfSteps, HeedsStepLimit, HasNoStepsLeft, AddsReturns, AddsReturnsUpTo, IfFound, returns_taken}

-- the position is from the effective start of the request to the end of its range
pub record IsPosition (request : Request) (position : ℕ) : Type 0 where
  pub from : effective_start request ≤ position
  pub to : position ≤ request.range_end

-- The automaton may serve a search: it follows the code, and goes from boundary to boundary.
pub record IsFollowable (r : Program) (haystack : List ℕ) (request : Request) : Type 0 where
  pub inside : request.range_end ≤ length haystack
  pub easy : program_is_easy r ≡ true
  pub plain : ArePlain (instrs_of r.code)
  pub places : KeepsPlaces haystack r.code.meaning (search_options r.options).on_boundaries

-- What was found ends where it starts or later, within the range, and on whole characters where matches do.
pub record StandsIn (r : Program) (asked : Asked) (f : Found) : Type 0 where
  pub ordered : f.start ≤ f.end
  pub inside : f.end ≤ asked.request.now.range_end
  pub cleanly : KeepsCharacters r → IsCleanlyFound asked.haystack.now f

-- No count falls, each return is a step, and the limit of steps is heeded: where the answer is that refusal, all is done that it allows.
pub record KeepsCounts {A : Type 0} (r : Program) (result : Result A Error) (before after : Work) : Type 0 where
  pub steps : steps_of before ≤ steps_of after
  pub returns : returns_of before ≤ returns_of after
  pub paired : returns_of after ≤ steps_of after
  pub within : HeedsStepLimit r before after
  pub limited : IsOutOfSteps result → HasNoStepsLeft r after

-- The returns of a hard search are those of what was asked where it is not refused, and its limit where it is refused for that; they
-- are never more than either.
pub record CountsReturns {A : Type 0} (r : Program) (q : Query) (result : Result A Error) (before after : Work) : Type 0 where
  pub counted : IfOk result (λ _. AddsReturns before (returns_taken r q) after)
  pub stopped : IsStopped result → AddsReturns before (program_limit r) after
  pub fits : AddsReturnsUpTo before (program_limit r) after
  pub most : AddsReturnsUpTo before (returns_taken r q) after

-- The machine lets no more branches be saved at one time than it did before, or than the program's limit allows.
abbrev pub HeedsStackLimit : Program → Cache → Cache → Type 0
HeedsStackLimit r before after = HeedsLimit (program_stack_limit r) before.machine after.machine

-- The answer of a search, with what it adds to the counts, whatever the searches before it left.
pub record Serves (r : Program) (asked : Asked) (result : Result (Option Found) Error) (old new : Cache) (before after : Work) : Type 0 where
  pub answer : IfOk result (λ m. IsAnswerIn m new (query_in r asked))
  pub held : asked.groups ≡ true → IfFound result (λ _. holds_groups new.served ≡ true)
  pub stands : IfFound result (StandsIn r asked)
  pub counts : KeepsCounts r result before after
  pub idle : TriesNothing r (query_in r asked) → steps_of after ≡ steps_of before
  pub none : TriesNothing r (query_in r asked) → IfOk result (λ m. m ≡ None)
  pub hard : IsHardProgram r → CountsReturns r (query_in r asked) result before after
  pub refused : IfErr result (RefusesQuery r (query_in r asked))
  pub allowed : IfOk result (λ _. AllowsQuery r (query_in r asked))
  pub heeds : HeedsStackLimit r old new

-- The answer of a search whose groups are not asked, with what it adds to the counts.
pub record ServesAlone (r : Program) (asked : Asked) (result : Result (Option Found) Error) (before after : Work) : Type 0 where
  pub answer : IfOk result (λ m. IsFoundBy m (query_in r asked))
  pub stands : IfFound result (StandsIn r asked)
  pub counts : KeepsCounts r result before after
  pub idle : TriesNothing r (query_in r asked) → steps_of after ≡ steps_of before
  pub none : TriesNothing r (query_in r asked) → IfOk result (λ m. m ≡ None)
  pub hard : IsHardProgram r → CountsReturns r (query_in r asked) result before after
  pub refused : IfErr result (RefusesQuery r (query_in r asked))
  pub allowed : IfOk result (λ _. AllowsQuery r (query_in r asked))

-- The answer of a search for an easy pattern, with what it adds to the counts. It does not work in what the machine holds.
pub record ServesEasily (r : Program) (q : Query) (groups : Bool) (result : Result (Option Found) Error) (old new : Cache) (before after : Work) : Type 0 where
  pub answer : IfOk result (λ m. IsAnswerIn m new q)
  pub held : groups ≡ true → IfFound result (λ _. holds_groups new.served ≡ true)
  pub counts : KeepsCounts r result before after
  pub idle : NoneTried (program_options r).seek q → steps_of after ≡ steps_of before
  pub refused : IfErr result (RefusesEasy r)
  pub apart : new.machine ≡ old.machine
