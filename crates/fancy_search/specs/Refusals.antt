-- The error that a refusal of an engine is told as.
use Rattle.fancy_tree.specs.declared.error.Error.{Error}
use Rattle.fancy_tree.specs.declared.error.Error.TheVariants as error
use Rattle.fancy_tree.specs.declared.error.RuntimeError.TheVariants.{BacktrackLimitExceeded, StackOverflow, StepLimitExceeded}
use Rattle.fancy_input.specs.declared.refusal.SearchRefusal.{SearchRefusal}
use Rattle.fancy_input.specs.declared.refusal.SearchRefusal.TheVariants.{Memory, Returns, Choices, Steps}

abbrev pub error_of : SearchRefusal → Error
error_of Memory = error.Memory
error_of Returns = error.RuntimeError BacktrackLimitExceeded
error_of Choices = error.RuntimeError StackOverflow
error_of Steps = error.RuntimeError StepLimitExceeded
