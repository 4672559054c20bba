-- What the runner comes to in a search that it begins and the automaton may go on with.
use Rattle.std.specs.Prelude.{◌≡◌, ◌+◌, ◌≤◌, ℕ, Bool, List, Option}
use Rattle.fancy_code.specs.Queries.{answer_with}
use Rattle.fancy_input.specs.Work.{steps_of, units_of}
use Rattle.fancy_input.specs.declared.input.Request.{Request}
use Rattle.fancy_input.specs.declared.span.Span.{Span}
use Rattle.fancy_input.specs.declared.work.Work.{Work}
use Rattle.fancy_meaning.specs.Search.{search}
use Rattle.fancy_meaning.specs.Tried.{NoneTried}
use Rattle.fancy_search.specs.SearchCounts.{step_bound}
use Rattle.fancy_search.specs.Programs.{asked_of, program_options}
use Rattle.fancy_search.specs.declared.begun.Begun.{Begun}
use Rattle.fancy_search.specs.declared.begun.Begun.TheVariants.{Ended, Left}
use Rattle.fancy_search.specs.declared.program.Program.{Program}

-- The rest of a request, up to the same end, has the answer of the whole, with `\G` on or off. The steps that were taken are no longer
-- ahead of it.
pub record IsRestOf (r : Program) (haystack : List ℕ) (request rest : Request) (before after : Work) : Type 0 where
  pub same : (on later : Bool) → search (asked_of r haystack rest later) ≡ search (asked_of r haystack request on)
  pub ends : rest.range_end ≡ request.range_end
  pub free : rest.anchored ≡ request.anchored
  pub paid : steps_of after + step_bound r rest ≤ steps_of before + step_bound r request
  pub units : units_of after ≡ units_of before
  pub tried : (on : Bool) → NoneTried (program_options r).seek (asked_of r haystack request on) → ⊥

-- what a search came to is its answer, with the groups of the runner, or the rest of what is asked
abbrev pub IsBegun : Program → List ℕ → Request → List (Option Span) → Work → Work → Begun → Type 0
IsBegun r haystack request groups before after (Ended m) = (on : Bool) → answer_with groups m ≡ search (asked_of r haystack request on)
IsBegun r haystack request groups before after (Left rest) = IsRestOf r haystack request rest before after
