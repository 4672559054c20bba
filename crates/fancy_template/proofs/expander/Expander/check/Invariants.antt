use Rattle.std.proofs.Common.{◌≡◌, chars}
use Rattle.fancy_template.specs.Templates.{steps}
use Rattle.fancy_template.specs.Expanders.{syntax_of, steps_left}
use Rattle.fancy_template.specs.Checks.{first_fault}
use Rattle.fancy_template.proofs.expander.Expander.check.Given as goal

abbrev pub invariant-loop-step : goal.invariant-loop-step
invariant-loop-step g l = first_fault (g.G.GroupNames.groups l.regex) (steps (syntax_of l.self) (chars l.template)) ≡ first_fault (g.G.GroupNames.groups l.regex) (steps_left l.step-iterator)
