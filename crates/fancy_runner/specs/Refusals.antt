-- Why a search gives no answer.
use Rattle.fancy_runner.specs.declared.refusal.RunnerRefusal.{RunnerRefusal}
use Rattle.fancy_runner.specs.declared.refusal.RunnerRefusal.TheVariants as runner
use Rattle.fancy_input.specs.declared.refusal.SearchRefusal.{SearchRefusal}
use Rattle.fancy_input.specs.declared.refusal.SearchRefusal.TheVariants as search

-- a refusal of the runner, as one of any search
abbrev pub refusal_of : RunnerRefusal → SearchRefusal
refusal_of runner.Memory = search.Memory
refusal_of runner.Steps = search.Steps

-- the runner refuses a search for want of memory, or of steps
abbrev pub IsRunnersRefusal : SearchRefusal → Type 0
IsRunnersRefusal search.Memory = Unit {0}
IsRunnersRefusal search.Returns = ⊥
IsRunnersRefusal search.Choices = ⊥
IsRunnersRefusal search.Steps = Unit {0}
