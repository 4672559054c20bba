use Rattle.std.proofs.Common.{arith}
use Rattle.fancy_machine.proofs.PassLemmas.{run_inside}
use Rattle.fancy_machine.proofs.runs.LastRun.past_of.Goals as goal

pub returns-then-place-self-clause-items : goal.returns-then-place-self-clause-items
returns-then-place-self-clause-items c splits haystack l known noted =
    run_inside splits haystack c.args.self c.args.at c.args.place l known noted (omega (arith, c.if-self-at.true)) (omega (arith, c.if-self-place.true)) (omega (arith, c.if-place-self.true))
