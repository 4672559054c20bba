-- What the refusal of an engine says of a search.
use Rattle.std.proofs.Common.{◌≡◌, ◌<◌, ℕ, Option, Some, None, true, Err, refl}
use Rattle.std.specs.Prelude.{is_some}
use Rattle.fancy_tree.specs.declared.error.Error.{Error}
use Rattle.fancy_tree.specs.declared.error.Error.TheVariants as error
use Rattle.fancy_tree.specs.declared.error.Error.TheVariants.{ParseError, CompileError, RuntimeError}
use Rattle.fancy_tree.specs.declared.error.RuntimeError.TheVariants.{BacktrackLimitExceeded, StackOverflow, StepLimitExceeded, Unmatched}
use Rattle.fancy_input.specs.declared.refusal.SearchRefusal.{SearchRefusal}
use Rattle.fancy_input.specs.declared.refusal.SearchRefusal.TheVariants.{Memory, Returns, Choices, Steps}
use Rattle.fancy_input.specs.declared.work.Work.{Work}
use Rattle.fancy_meaning.specs.Search.{Query}
use Rattle.fancy_input.specs.Work.{IsSpent}
use Rattle.fancy_runner.specs.Refusals.{IsRunnersRefusal}
use Rattle.fancy_search.specs.declared.program.Program.{Program}
use Rattle.fancy_search.specs.Programs.{program_limit, program_stack_limit, program_step_limit}
use Rattle.fancy_search.specs.Refusals.{error_of}
use Rattle.fancy_search.specs.SearchCounts.{IsHardProgram, IsOutOfSteps, IsStopped, RefusesQuery, RefusesEasy, returns_taken, choices_in}

-- a limit that is spent is one
pub spent_some : (limit : Option ℕ) (w : Work) → IsSpent limit w → is_some limit ≡ true
spent_some None w spent = absurd spent
spent_some (Some most) w spent = refl

-- where it is not out of steps, an easy search is refused for want of memory alone
pub only_memory : {A : Type 0} (r : Program) (e : Error) → RefusesEasy r e → (IsOutOfSteps {A = A} (Err e) → ⊥) → e ≡ error.Memory
only_memory r error.Memory is steps = refl
only_memory r (ParseError at kind) is steps = absurd is
only_memory r (CompileError why) is steps = absurd is
only_memory r (RuntimeError BacktrackLimitExceeded) is steps = absurd is
only_memory r (RuntimeError StackOverflow) is steps = absurd is
only_memory r (RuntimeError StepLimitExceeded) is steps = absurd (steps refl)
only_memory r (RuntimeError (Unmatched place)) is steps = absurd is

-- a hard search is refused for what the machine refuses it for
pub refuses_hard : (r : Program) (q : Query) (w : Work) (why : SearchRefusal) → IsHardProgram r
    → (why ≡ Returns → program_limit r < returns_taken r q) → (why ≡ Choices → program_stack_limit r < choices_in r q)
    → (why ≡ Steps → IsSpent (program_step_limit r) w) → RefusesQuery r q (error_of why)
refuses_hard r q w Memory hard returns choices steps = tt
refuses_hard r q w Returns hard returns choices steps = (hard, returns refl)
refuses_hard r q w Choices hard returns choices steps = (hard, choices refl)
refuses_hard r q w Steps hard returns choices steps = spent_some (program_step_limit r) w (steps refl)

-- an easy search is refused for what the runner refuses it for
pub easily_refused : (r : Program) (w : Work) (why : SearchRefusal) → IsRunnersRefusal why → (why ≡ Steps → IsSpent (program_step_limit r) w) → RefusesEasy r (error_of why)
easily_refused r w Memory is steps = tt
easily_refused r w Returns is steps = absurd is
easily_refused r w Choices is steps = absurd is
easily_refused r w Steps is steps = spent_some (program_step_limit r) w (steps refl)

-- which is less than what a search may be refused for
pub refuses_easy : (r : Program) (q : Query) (e : Error) → RefusesEasy r e → RefusesQuery r q e
refuses_easy r q error.Memory is = tt
refuses_easy r q (ParseError at kind) is = absurd is
refuses_easy r q (CompileError why) is = absurd is
refuses_easy r q (RuntimeError BacktrackLimitExceeded) is = absurd is
refuses_easy r q (RuntimeError StackOverflow) is = absurd is
refuses_easy r q (RuntimeError StepLimitExceeded) is = is
refuses_easy r q (RuntimeError (Unmatched place)) is = absurd is

-- a search is out of steps where its engine is
pub out_of_steps : {A : Type 0} (why : SearchRefusal) → IsOutOfSteps {A = A} (Err (error_of why)) → why ≡ Steps
out_of_steps Memory e = cc
out_of_steps Returns e = cc
out_of_steps Choices e = cc
out_of_steps Steps e = refl

-- and past its limit of returns where its engine is
pub stopped_by : {A : Type 0} (why : SearchRefusal) → IsStopped {A = A} (Err (error_of why)) → why ≡ Returns
stopped_by Memory e = cc
stopped_by Returns e = refl
stopped_by Choices e = cc
stopped_by Steps e = cc
