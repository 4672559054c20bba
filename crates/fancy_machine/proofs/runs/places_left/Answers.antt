use Rattle.std.proofs.Common.{◌-◌, ◌+◌, arith}
use Rattle.fancy_machine.proofs.PassLemmas.{all_die, one_more_death}
use Rattle.fancy_machine.proofs.runs.places_left.Goals as goal

pub returns-then-split-clause-dies : goal.returns-then-split-clause-dies
returns-then-split-clause-dies c =
    all_die c.args.split.now c.args.haystack.now c.args.from c.args.run.count c.requires.items (c.requires.apart c.if-split.true) (c.may_leave.ensures c.if-may_leave.false)

pub places-init : goal.places-init
places-init c =
    one_more_death c.args.split.now c.args.haystack.now c.args.from c.args.run.count (c.args.run.count + 1) (λ k low high. absurd (omega (arith, low, high))) (c.may_leave.ensures c.if-may_leave.false)

pub places-preserved : goal.places-preserved
places-preserved c =
    one_more_death c.args.split.now c.args.haystack.now c.args.from (c.places.index - 1) (c.args.run.count + 1) (λ k low high. c.places.invariant k (omega (arith, low, c.places-test.true)) high)
    (c.may_leave-in-places.ensures c.if-may_leave-2.false)
