-- Steps that the automaton remembers, and the code that they are of.
use Rattle.fancy_code.specs.declared.code.Code.{Code}
use Rattle.fancy_states.specs.Cells.{IsBounded}
use Rattle.fancy_states.specs.Remembered.{Remembers}
use Rattle.fancy_search.specs.declared.cache.RememberedSteps.{RememberedSteps}

-- The steps that the automaton remembers are of the code.
pub record AreStepsOf (code : Code) (steps : RememberedSteps) : Type 0 where
  pub true_of : Remembers steps.cells code
  pub within : IsBounded steps.cells
