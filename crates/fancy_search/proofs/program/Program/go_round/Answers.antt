use Rattle.std.proofs.Common.{◌∙◌, Some, ap}
use Rattle.fancy_search.specs.declared.straight.StraightEnd.TheVariants.{Loop}
use Rattle.fancy_search.proofs.StraightLemmas.{to_end}
use Rattle.fancy_search.proofs.program.Program.go_round.Goals as goal

pub returns-in-Loop-clause-led : goal.returns-in-Loop-clause-led
returns-in-Loop-clause-led c x m h =
    to_end _ _ (Loop c.in-Loop.item) (c.in-Some.is ∙ ap Some c.in-Loop.is) (ap (λ end. record c.args.found { end = end }) (c.past_turns-end.ensures.read x m h))
